-- The calls that the code ends together. No other definition uses it.
use Rattle.std.specs.Prelude.{Bool}
use Rattle.dmr_keeper.specs.declared.calls.OpenCall.{OpenCall}
use Rattle.dmr_keeper.specs.declared.ending.EndingCalls.{EndingCalls}
use Rattle.dmr_keeper.specs.declared.ending.EndingCalls.TheVariants.{OnSlot, OfCarrier}
use Rattle.dmr_keeper.specs.Calls.{is_on, is_of}

-- the call is one of them
abbrev pub is_covered : EndingCalls → OpenCall → Bool
is_covered (OnSlot slot) o = is_on slot o
is_covered (OfCarrier carrier) o = is_of carrier o
