use Rattle.std.proofs.Common.{◌≡◌, Err, None, rules}
use Rattle.dmr_trunk.proofs.ScriptLemmas.{refuses_making, refuses_writing}
use Rattle.dmr_trunk.proofs.script.RecordingFileScript.append.Goals as goal

pub returns-in_err-file-in-None-clause-refused : goal.returns-in_err-file-in-None-clause-refused
returns-in_err-file-in-None-clause-refused c =
    let err : c.from_residual.result ≡ Err c.in_err-file-in-None.field-0.0 = search rules in
    let none : c.args.self.now.file ≡ None = search rules in
    rw err (refuses_making c.args.self.now c.args.lines.now _ none c.in_err-file-in-None.ensures)

pub returns-in_err-write_lines-clause-refused : goal.returns-in_err-write_lines-clause-refused
returns-in_err-write_lines-clause-refused c =
    let err : c.from_residual-in_err-write_lines.result ≡ Err c.in_err-write_lines.field-0.0 = search rules in
    rw err (refuses_writing c.args.self.now c.args.lines.now _ c.in_err-write_lines.ensures)
