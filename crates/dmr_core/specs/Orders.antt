-- The order of registrations, asks, lines and calls, defined by the acts.
use Rattle.std.specs.Prelude.{◌≡◌, ℕ, List, [], ◌∷◌, ◌++◌, Bool, if◌then◌else◌, filter, flat_map}
use Rattle.std.specs.Prelude.{map}
use Rattle.std.specs.List.{list_any}
use Rattle.dmr_pdu.specs.declared.slots.Slot.{Slot}
use Rattle.dmr_calls.specs.declared.ask.ActiveAsk.{ActiveAsk}
use Rattle.dmr_calls.specs.declared.line.Line.{Line}
use Rattle.dmr_calls.specs.declared.call.ActiveCall.{ActiveCall}
use Rattle.dmr_core.specs.declared.act.Act.{Act}
use Rattle.dmr_core.specs.declared.act.Act.TheVariants.{Asked, Began, Joined, Lined}
use Rattle.dmr_core.specs.declared.entry.Entry.{Entry}

-- the radio that an act registers
abbrev pub joined_by : Act → List ℕ
joined_by (Joined radio) = radio ∷ []
joined_by _ = []

-- the source of the ask that an act opens
abbrev pub asked_by : Act → List ℕ
asked_by (Asked ask) = ask.source ∷ []
asked_by _ = []

-- the source of the line that an act opens
abbrev pub lined_by : Act → List ℕ
lined_by (Lined line) = line.source ∷ []
lined_by _ = []

-- the slot on which an act begins a call
abbrev pub begun_by : Act → List Slot
begun_by (Began call) = call.slot ∷ []
begun_by _ = []

-- the sources of asks
abbrev pub sources_of_asks : List ActiveAsk → List ℕ
sources_of_asks asks = map (λ (a : ActiveAsk). a.ask.source) asks

-- the sources of lines
abbrev pub sources_of_lines : List Line → List ℕ
sources_of_lines lines = map (λ (l : Line). l.source) lines

-- the slots of calls
abbrev pub slots_of_calls : List ActiveCall → List Slot
slots_of_calls calls = map (λ (s : ActiveCall). s.call.slot) calls

-- the values before the journal, followed by those that its acts opened, oldest first
abbrev pub with_openings : {X : Type 0} → (Act → List X) → List X → List Entry → List X
with_openings by_act before [] = before
with_openings by_act before (entry ∷ earlier) =
    with_openings by_act before earlier ++ flat_map by_act entry.acts.list

-- of equal values, the last alone
abbrev pub last_of_each : {X : Type 0} → (X → X → Bool) → List X → List X
last_of_each same [] = []
last_of_each same (x ∷ xs) =
    if list_any (same x) xs then last_of_each same xs else x ∷ last_of_each same xs

-- xs has some of the values of `all`, each once, in the order in which they come last
abbrev pub IsInOrder : {X : Type 0} → (X → X → Bool) → List X → List X → Type 0
IsInOrder same all xs = xs ≡ filter (λ x. list_any (same x) xs) (last_of_each same all)
