use Rattle.dmr_keeper.specs.Changes.{changes_in_entry}
use Rattle.dmr_keeper.specs.Notes.{notes_in_entry}
use Rattle.dmr_keeper.proofs.JoinLemmas.{carried-append, carrier-append, counts-append, ended-append, told-append}
use Rattle.dmr_keeper.proofs.laws.records_join.Goals as goal

pub returns-clause-calls : goal.returns-clause-calls
returns-clause-calls c = λ plan before first second. ended-append plan before.ticks before.lines before.calls first second

pub returns-clause-changes : goal.returns-clause-changes
returns-clause-changes c = λ plan before first second. told-append changes_in_entry before.ticks first second

pub returns-clause-notes : goal.returns-clause-notes
returns-clause-notes c = λ plan before first second. told-append (notes_in_entry plan) before.ticks first second

pub returns-clause-counts : goal.returns-clause-counts
returns-clause-counts c = counts-append

pub returns-clause-carriers : goal.returns-clause-carriers
returns-clause-carriers c = carrier-append

pub returns-clause-after : goal.returns-clause-after
returns-clause-after c = carried-append
