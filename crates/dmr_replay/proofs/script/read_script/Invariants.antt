use Rattle.std.proofs.Common.{◌≡◌, ◌+◌, length, drop, map}
use Rattle.dmr_replay.specs.Script.{repeated_input, lines_of, script_of}
use Rattle.dmr_replay.proofs.ScriptLemmas.{answer}
use Rattle.dmr_replay.proofs.script.read_script.Given as goal

abbrev pub invariant-loop-index : goal.invariant-loop-index
invariant-loop-index l =
    answer (map repeated_input l.given.items) (length l.yielded + 1) (drop (length l.yielded) (lines_of l.script)) ≡ script_of l.script
