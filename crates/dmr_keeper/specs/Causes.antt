-- Why a call ended, by the event of the entry in which it ended.
use Rattle.std.specs.Prelude.{ℕ, nat_le, if◌then◌else◌}
use Rattle.dmr_calls.specs.declared.call.ActiveCall.{ActiveCall}
use Rattle.dmr_core.specs.declared.command.Command.{Command}
use Rattle.dmr_core.specs.declared.command.Command.TheVariants.{Drop}
use Rattle.dmr_core.specs.declared.event.Event.{Event}
use Rattle.dmr_core.specs.declared.event.Event.TheVariants.{Up, Lost, Heard, Say}
use Rattle.dmr_keeper.specs.declared.cause.EndCause.{EndCause}
use Rattle.dmr_keeper.specs.declared.cause.EndCause.TheVariants.{HangTime, Maximum, RadioLeft}
use Rattle.dmr_keeper.specs.declared.cause.EndCause.TheVariants.{Dropped, EndedByOperator}
use Rattle.dmr_keeper.specs.declared.cause.EndCause.TheVariants.{CarrierLost}

-- a call that is over at a Tick was quiet for the hang time, or is as old as a call may be. If both hold, the cause is
-- the hang time: at the maximum a call is cut off while it is in use, and nobody used this one
abbrev pub cause_by_age : ℕ → ActiveCall → EndCause
cause_by_age hang s = if nat_le hang s.quiet then HangTime else Maximum

-- of an operator's commands that end calls, `drop` ends those of the radio that it drops
abbrev pub cause_by_command : Command → EndCause
cause_by_command (Drop radio) = Dropped
cause_by_command _ = EndedByOperator

-- a carrier's Up and Lost end its calls, and a PDU that of a radio that leaves by it. A command and a Tick end calls
-- too. No other event does
abbrev pub cause_of : ℕ → Event → ActiveCall → EndCause
cause_of hang (Up carrier) s = CarrierLost
cause_of hang (Lost carrier) s = CarrierLost
cause_of hang (Heard slot pdu) s = RadioLeft
cause_of hang (Say command) s = cause_by_command command
cause_of hang _ s = cause_by_age hang s
