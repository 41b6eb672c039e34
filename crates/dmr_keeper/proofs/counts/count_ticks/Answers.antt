use Rattle.std.proofs.Common.{rules, tests, ◌∙◌}
use Rattle.std.proofs.lemmas.Iterator.{YieldsList-from_slice}
use Rattle.std.proofs.lemmas.Iterator.Consumers.{YieldsList-at, YieldsList-from_filter, count_from_yields_List}
use Rattle.std.proofs.lemmas.List.Sums.{length-filter}
use Rattle.dmr_core.specs.declared.entry.Entry.{Entry}
use Rattle.dmr_keeper.specs.Ticks.{is_tick}
use Rattle.dmr_keeper.proofs.counts.count_ticks.Goals as goal

pub returns : goal.returns
returns c =
    let all = YieldsList-at c.filter.ensures.source (YieldsList-from_slice c.args.journal.now c.iter.ensures.rest) in
    count_from_yields_List c.filter.result _ c.count.ensures.ran
    (YieldsList-from_filter _ (λ (e : Entry). is_tick e.event) all c.filter.ensures.closure (λ x b q k. search (rules, tests)))
    ∙ length-filter (λ (e : Entry). is_tick e.event) c.args.journal.now
