use Rattle.std.proofs.Common.{◌≡◌, ◌++◌, [], take, drop, map}
use Rattle.dmr_link.proofs.outputs.clear_texts.Given as goal

abbrev pub invariant-loop-text : goal.invariant-loop-text
invariant-loop-text l = l.texts ≡ map (λ text. []) (take l.text-index l.fn.texts) ++ drop l.text-index l.fn.texts
