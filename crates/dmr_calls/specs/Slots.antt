-- Calls are on slots: an invariant of the table. No other definition uses it.
use Rattle.std.specs.Prelude.{◌<◌, List}
use Rattle.std.specs.List.{All}
use Rattle.dmr_calls.specs.declared.call.ActiveCall.{ActiveCall}

-- every call is on one of the two slots of a carrier
abbrev pub AreOnSlots : List ActiveCall → Type 0
AreOnSlots calls = All (λ s. s.call.slot.slot < 2) calls
