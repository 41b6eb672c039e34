-- Why a connection ended, as its link reports it.
use Rattle.dmr_port.specs.declared.cause.CloseCause.{CloseCause}
use Rattle.dmr_port.specs.declared.cause.CloseCause.TheVariants as cause
use Rattle.dmr_port.specs.declared.whose.Whose.{Whose}
use Rattle.dmr_wire.specs.declared.closing.Closing.{Closing}
use Rattle.dmr_wire.specs.declared.closing.Closing.TheVariants.{Over, Bye, ReadFailed, WriteFailed}
use Rattle.dmr_wire.specs.declared.closing.Closing.TheVariants.{Bad, Refused}

-- the cause of a closing on the port of this owner
abbrev pub cause_of_closing : Closing → Whose → CloseCause
cause_of_closing Over whose = cause.Controller
cause_of_closing Bye whose = cause.Bye
cause_of_closing ReadFailed whose = cause.ReadFault
cause_of_closing WriteFailed whose = cause.WriteFault
cause_of_closing (Bad fault) whose = cause.LinkFault fault
cause_of_closing (Refused fault hello) whose = cause.Refused fault hello whose
