use Rattle.std.proofs.Common.{◌≡◌, ◌+◌, length, drop}
use Rattle.dmr_replay.specs.Script.{lines_of, script_of}
use Rattle.dmr_replay.proofs.ScriptLemmas.{answer, given_before}
use Rattle.dmr_replay.proofs.checking.check_script.Given as goal

abbrev pub invariant-loop-index : goal.invariant-loop-index
invariant-loop-index l =
    answer (given_before (lines_of l.script) (length l.yielded)) (length l.yielded + 1)
    (drop (length l.yielded) (lines_of l.script)) ≡ script_of l.script
