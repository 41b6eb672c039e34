use Rattle.std.proofs.Common.{rules}
use Rattle.dmr_core.specs.Journal.{unattributed_entry}
use Rattle.dmr_core.proofs.FactsFollowEntries.{facts_after-entry}
use Rattle.dmr_core.proofs.machine.Machine.apply_to.Goals as goal

pub returns-clause-facts : goal.returns-clause-facts
returns-clause-facts c =
    let step =
    facts_after-entry c.args.self.now.plan c.args.self.now.facts (unattributed_entry c.args.event.now c.answer_and_note.new.acts) in
    rw step (search rules)
