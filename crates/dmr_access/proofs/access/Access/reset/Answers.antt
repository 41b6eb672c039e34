use Rattle.std.proofs.Common.{arith, ◌≡◌, ◌≤◌, length, replicate, ap, inr, sum, sym, ◌∙◌, List, ℕ, []}
use Rattle.std.proofs.lemmas.Grind.{common_steps}
use Rattle.std.proofs.lemmas.List.Elements.{All-replicate}
use Rattle.dmr_access.proofs.access.Access.reset.Goals as goal

pub invariant_of-self : goal.invariant_of-self
invariant_of-self c =
    let items : c.extend_from_slice.new.self.items ≡ replicate 32 0 = grind (arith, common_steps) in
    let empty : c.self.inside.noise.items ≡ [] = search arith in (
      search arith,
      (inr (ap length items), rw items (All-replicate (λ n. n ≤ 15) 32 0 (omega arith))),
      search arith,
      c.self.invariant.3 ∙ ap (λ (xs : List ℕ). sum xs) empty ∙ sym (ap (λ (xs : List ℕ). sum xs) items),
      c.self.invariant.4,
    )
