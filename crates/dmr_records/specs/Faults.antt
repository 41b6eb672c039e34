-- What an error of the library means for the file.
use Rattle.sqlite.specs.declared.error.Error.{Error}
use Rattle.sqlite.specs.declared.error.Error.TheVariants.{SqliteFailure}
use Rattle.sqlite.specs.declared.error.ErrorCode.{ErrorCode}
use Rattle.sqlite.specs.declared.error.ErrorCode.TheVariants as code
use Rattle.dmr_keeper.specs.declared.keeper.KeepFault.{KeepFault}
use Rattle.dmr_keeper.specs.declared.keeper.KeepFault.TheVariants as keep
use Rattle.dmr_records.specs.declared.fault.FileFault.{FileFault}
use Rattle.dmr_records.specs.declared.fault.FileFault.TheVariants as fault

-- a failure with a code
abbrev pub fault_by_code : ErrorCode → FileFault
fault_by_code code.OutOfMemory = fault.OutOfMemory
fault_by_code code.CannotOpen = fault.CannotOpen
fault_by_code code.DatabaseBusy = fault.Locked
fault_by_code code.DatabaseCorrupt = fault.Damaged
fault_by_code code.DiskFull = fault.Full
fault_by_code code.SystemIoFailure = fault.NotTransferred
fault_by_code code.Closed = fault.NotTransferred
fault_by_code _ = fault.NotRecords

-- an error. A statement that is refused shows that the tables are others
abbrev pub fault_of : Error → FileFault
fault_of (SqliteFailure c) = fault_by_code c
fault_of _ = fault.NotRecords

-- a fault as a keeper reports it
abbrev pub keep_fault_of : FileFault → KeepFault
keep_fault_of fault.OutOfMemory = keep.OutOfMemory
keep_fault_of fault.CannotOpen = keep.CannotOpen
keep_fault_of fault.Locked = keep.InUse
keep_fault_of (fault.Newer version) = keep.Newer
keep_fault_of fault.NotRecords = keep.NotRecords
keep_fault_of fault.Damaged = keep.Damaged
keep_fault_of fault.Full = keep.Full
keep_fault_of fault.NotTransferred = keep.NotTransferred
