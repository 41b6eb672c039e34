-- The exit statuses of the faults of serving.
use Rattle.std.specs.Prelude.{ℕ}
use Rattle.dmr_desk.specs.declared.fault.OpenFault.TheVariants.{OutOfMemory}
use Rattle.dmr_desk.specs.declared.fault.TermFault.{TermFault}
use Rattle.dmr_desk.specs.declared.fault.TermFault.TheVariants.{NoThread, Open}
use Rattle.dmr_command.specs.declared.fault.ServeFault.{ServeFault}
use Rattle.dmr_command.specs.declared.fault.ServeFault.TheVariants as fault

-- the exit status of a term's fault: 4 for no memory or no thread, 3 for every other fault
abbrev pub status_of_term : TermFault → ℕ
status_of_term NoThread = 4
status_of_term (Open OutOfMemory) = 4
status_of_term other = 3

-- the exit status of a fault: 1 for no port or no poll, 4 for no memory; a term's fault has its own
abbrev pub status_of_fault : ServeFault → ℕ
status_of_fault (fault.CannotListen port) = 1
status_of_fault fault.NoPoll = 1
status_of_fault (fault.Term term) = status_of_term term
status_of_fault fault.OutOfMemory = 4
