-- The faults of serving: why nothing is served, and how a term may fail.
use Rattle.std.specs.Prelude.{ℕ}
use Rattle.dmr_desk.specs.declared.fault.CloseFault.TheVariants.{Differs}
use Rattle.dmr_desk.specs.declared.fault.OpenFault.TheVariants.{OutOfMemory}
use Rattle.dmr_desk.specs.declared.fault.TermFault.{TermFault}
use Rattle.dmr_desk.specs.declared.fault.TermFault.TheVariants.{Audit, Early, NoThread, Open}
use Rattle.dmr_command.specs.declared.fault.ServeFault.{ServeFault}
use Rattle.dmr_command.specs.declared.fault.ServeFault.TheVariants as serve_fault
use Rattle.dmr_trunk.specs.declared.mio_sockets.ListenFault.{ListenFault}
use Rattle.dmr_trunk.specs.declared.mio_sockets.ListenFault.TheVariants as listen_fault
use Rattle.dmr_trunk.specs.declared.not_served.NotServed.{NotServed}
use Rattle.dmr_trunk.specs.declared.not_served.NotServed.TheVariants as not_served

-- why nothing is served, if the port with this number cannot listen
abbrev pub fault_of_listening : ℕ → ListenFault → NotServed
fault_of_listening port (listen_fault.CannotListen error) = not_served.CannotListen port
fault_of_listening port (listen_fault.NoPoll error) = not_served.NoPoll
fault_of_listening port listen_fault.OutOfMemory = not_served.OutOfMemory

-- the fault of serving, if nothing is served for this reason
abbrev pub fault_of_opening : NotServed → ServeFault
fault_of_opening (not_served.CannotListen port) = serve_fault.CannotListen port
fault_of_opening not_served.NoPoll = serve_fault.NoPoll
fault_of_opening not_served.OutOfMemory = serve_fault.OutOfMemory

-- a fault that a term of a plan's site may have: no memory, no thread, or what its audit finds. The stations, the limit
-- and the number of actors fit, and no seat is missing
abbrev pub MayFail : TermFault → Type 0
MayFail (Open OutOfMemory) = Unit {0}
MayFail NoThread = Unit {0}
MayFail (Audit (Differs actor)) = Unit {0}
MayFail (Early actor) = Unit {0}
MayFail fault = ⊥

-- a fault that serving the site of a plan may have
abbrev pub IsServeFault : ServeFault → Type 0
IsServeFault (serve_fault.Term fault) = MayFail fault
IsServeFault other = Unit {0}
