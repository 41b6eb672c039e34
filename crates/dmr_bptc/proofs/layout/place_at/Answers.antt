use Rattle.std.proofs.Common.{◌≡◌, ◌==◌, ℕ, ◌+◌, ◌*◌, ◌%◌, ◌<◌, true, get_or, refl, ◌∙◌, arith}
use Rattle.std.proofs.lemmas.Bool.{agree_below, agree_below_at, eqb-true}
use Rattle.dmr_bptc.specs.declared.layout.TheConstants.{PLACES}
use Rattle.dmr_bptc.proofs.layout.place_at.Goals as goal

-- the table is the interleaving
are_places : agree_below (λ n. get_or PLACES n 0 == 181 * n % 196) (λ _. true) 196 ≡ true
are_places = refl

place-is : (n : ℕ) → n < 196 → get_or PLACES n 0 ≡ 181 * n % 196
place-is n lt =
    eqb-true (get_or PLACES n 0) (181 * n % 196) (agree_below_at (λ n. get_or PLACES n 0 == 181 * n % 196) (λ _. true) 196 n are_places lt)

pub returns : goal.returns
returns c = c.from.ensures ∙ place-is (1 + 15 * c.args.row + c.args.column) (omega arith)
