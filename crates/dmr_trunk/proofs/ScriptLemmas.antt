-- What the file of a recording may refuse.
use Rattle.std.proofs.Common.{◌≡◌, ℕ, List, None, true}
use Rattle.std.proofs.lemmas.Bool.{false≢true}
use Rattle.dmr_trunk.specs.declared.script.RecordingFile.{RecordingFile}
use Rattle.dmr_trunk.specs.declared.script.ScriptFileFault.{ScriptFileFault}
use Rattle.dmr_trunk.specs.declared.script.ScriptFileFault.TheVariants.{Exists, CannotMake, Long, Full, NotWritten, Removed}
use Rattle.dmr_trunk.specs.Scripts.{MayRefuse, is_of_disk, is_of_making}

-- the file cannot be made
pub refuses_making : (file : RecordingFile) (lines : List ℕ) (fault : ScriptFileFault) → file.file ≡ None → is_of_making fault ≡ true →
    MayRefuse file lines fault
refuses_making file lines Exists none making = none
refuses_making file lines CannotMake none making = none
refuses_making file lines Long none making = absurd (false≢true making)
refuses_making file lines Full none making = absurd (false≢true making)
refuses_making file lines NotWritten none making = absurd (false≢true making)
refuses_making file lines Removed none making = absurd (false≢true making)

-- the disk refuses lines
pub refuses_writing : (file : RecordingFile) (lines : List ℕ) (fault : ScriptFileFault) → is_of_disk fault ≡ true →
    MayRefuse file lines fault
refuses_writing file lines Full disk = disk
refuses_writing file lines NotWritten disk = disk
refuses_writing file lines Removed disk = disk
refuses_writing file lines Exists disk = absurd (false≢true disk)
refuses_writing file lines CannotMake disk = absurd (false≢true disk)
refuses_writing file lines Long disk = absurd (false≢true disk)
