use Rattle.std.proofs.Common.{ℕ, List, [], arith, get_or}
use Rattle.std.proofs.lemmas.List.{get_or_default}
use Rattle.std.proofs.lemmas.List.Edits.{map_over_more}
use Rattle.dmr_link.proofs.outputs.clear_texts.Goals as goal

pub loop-text-preserved : goal.loop-text-preserved
loop-text-preserved c =
    let read : List ℕ = get_or c.loop-text.texts c.loop-text.text-index [] in
    let same = get_or_default c.loop-text.texts c.loop-text.text-index [] read (omega arith) in
    rw c.clear.ensures.items (map_over_more (λ (text : List ℕ). let none : List ℕ = [] in none) c.args.texts.now c.loop-text.texts
    c.loop-text.text-index read (omega arith) c.loop-text.invariant same)
