-- What one term hands on to the next.
use Rattle.std.specs.Prelude.{ℕ, ◌+◌, List, []}
use Rattle.dmr_plan.specs.declared.settings.Settings.{Settings}
use Rattle.dmr_core.specs.declared.entry.Entry.{Entry}
use Rattle.dmr_keeper.specs.declared.calls.OpenCall.{OpenCall}
use Rattle.dmr_keeper.specs.declared.lines.OpenLine.{OpenLine}
use Rattle.dmr_keeper.specs.Calls.{open_after}
use Rattle.dmr_keeper.specs.Lines.{lines_after}
use Rattle.dmr_keeper.specs.Registered.{registered_after}
use Rattle.dmr_keeper.specs.Ticks.{ticks_in}

-- the ticks of all terms so far, the open calls in the order in which they began, the lines that wait, and the
-- registered radios in the order of joining
pub record Carry : Type 0 where
  pub ticks : ℕ
  pub calls : List OpenCall
  pub lines : List OpenLine
  pub registered : List ℕ

-- before the first term of a site on which nothing has happened
abbrev pub nothing_carried : Carry
nothing_carried = record { ticks = 0; calls = []; lines = []; registered = [] }

-- before the first term of a site that starts with these radios registered, in the order of joining
abbrev pub starting_with : List ℕ → Carry
starting_with radios = record { ticks = 0; calls = []; lines = []; registered = radios }

-- after the journal of a term, oldest first
abbrev pub carried_after : Settings → Carry → List Entry → Carry
carried_after plan before journal = record {
  ticks = before.ticks + ticks_in journal;
  calls = open_after plan before.ticks before.lines before.calls journal;
  lines = lines_after plan before.ticks before.lines journal;
  registered = registered_after before.registered journal;
}
