-- Verdicts on frames.
use Rattle.std.specs.Prelude.{Bool, true, false, List, [], Option, Some, None}
use Rattle.dmr_core.specs.declared.act.Act.{Act}
use Rattle.dmr_link.specs.declared.desk.Deposit.{Deposit}
use Rattle.dmr_port.specs.Causes.{cause_of_closing}
use Rattle.dmr_port.specs.declared.whose.Whose.{Whose}
use Rattle.dmr_wire.specs.declared.closing.Closing.{Closing}
use Rattle.dmr_wire.specs.declared.closing.Closing.TheVariants.{Refused as hello_refused}
use Rattle.dmr_decode.specs.declared.verdict.Verdict.{Verdict}
use Rattle.dmr_decode.specs.declared.verdict.Verdict.TheVariants.{NotControl, Retransmission}
use Rattle.dmr_decode.specs.declared.verdict.Verdict.TheVariants.{NoRequest, NotAsked, NoRoom, NoCall}
use Rattle.dmr_decode.specs.declared.verdict.Verdict.TheVariants.{Refused, Ended}

-- the verdict says that the controller ignores the frame
abbrev pub is_ignored : Verdict → Bool
is_ignored NotControl = true
is_ignored Retransmission = true
is_ignored NoRequest = true
is_ignored NotAsked = true
is_ignored NoRoom = true
is_ignored NoCall = true
is_ignored other = false

-- the acts of a frame's event; a frame without an event has none
abbrev pub acts_in : Option Deposit → List Act
acts_in (Some deposit) = deposit.acts.list
acts_in None = []

-- the verdict on a frame that closes its connection, on the port of this owner
abbrev pub verdict_of_closing : Closing → Whose → Verdict
verdict_of_closing (hello_refused cause hello) whose =
    Refused (cause_of_closing (hello_refused cause hello) whose)
verdict_of_closing other whose = Ended (cause_of_closing other whose)
