-- What the laws say of the state between two terms.
use Rattle.std.specs.Prelude.{◌≡◌, ◌≤◌, ◌-◌, ℕ, List, Bool, true, false, length, map, min}
use Rattle.std.specs.List.{All}
use Rattle.dmr_calls.specs.declared.call.ActiveCall.{ActiveCall}
use Rattle.dmr_calls.specs.Limits.{most_calls, most_lines, most_ticks}
use Rattle.dmr_registry.specs.Limits.{most_radios}
use Rattle.dmr_core.specs.declared.event.Event.{Event}
use Rattle.dmr_core.specs.declared.event.Event.TheVariants.{Heard, Tick, Say}
use Rattle.dmr_core.specs.declared.act.Act.{Act}
use Rattle.dmr_core.specs.declared.act.Act.TheVariants.{Ended}
use Rattle.dmr_core.specs.CommandWords.{row_of}
use Rattle.dmr_core.specs.Facts.{Facts}
use Rattle.dmr_calls.specs.declared.line.Line.{Line}
use Rattle.dmr_keeper.specs.declared.calls.OpenCall.{OpenCall}
use Rattle.dmr_keeper.specs.declared.lines.OpenLine.{OpenLine}
use Rattle.dmr_keeper.specs.Carried.{Carry}

-- the calls of a site among those that are open
abbrev pub active_in : List OpenCall → List ActiveCall
active_in calls = map (λ (o : OpenCall). o.active) calls

-- the lines of a site among those with their ticks
abbrev pub lines_in : List OpenLine → List Line
lines_in lines = map (λ (l : OpenLine). l.line) lines

-- the open calls, the lines and the registered radios are those of the facts of a site
pub record IsOfFacts (carry : Carry) (facts : Facts) : Type 0 where
  pub calls : active_in carry.calls ≡ facts.calls
  pub lines : lines_in carry.lines ≡ facts.lines
  pub registered : carry.registered ≡ facts.registered

-- the site's own limits
pub record IsWithinLimits (carry : Carry) : Type 0 where
  pub calls : length carry.calls ≤ most_calls
  pub lines : length carry.lines ≤ most_lines
  pub registered : length carry.registered ≤ most_radios

-- the age of a call is the ticks since it began, up to 65,535
pub record HasAge (ticks : ℕ) (o : OpenCall) : Type 0 where
  pub began : o.began ≤ ticks
  pub age : o.active.age ≡ min most_ticks (ticks - o.began)

-- so it is for each of the calls
abbrev pub HaveAges : ℕ → List OpenCall → Type 0
HaveAges ticks calls = All (HasAge ticks) calls

-- the act ends a call
abbrev pub is_end : Act → Bool
is_end (Ended slot) = true
is_end _ = false

-- the event may be answered with the end of a call: a Tick, a PDU, and an operator's command that may end calls
abbrev pub MayEndCalls : Event → Type 0
MayEndCalls Tick = Unit {0}
MayEndCalls (Heard slot pdu) = Unit {0}
MayEndCalls (Say c) = (row_of c).ends_calls ≡ true
MayEndCalls _ = ⊥
