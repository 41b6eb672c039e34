use Rattle.std.proofs.Common.{arith, ◌≡◌, sum, ap, List, ℕ}
use Rattle.dmr_access.specs.Noise.{AreNoiseNumbers, with_noise}
use Rattle.dmr_access.proofs.NoiseLemmas.{with_noise-are, sum-few}
use Rattle.dmr_access.proofs.access.Access.noise.Goals as goal

pub overflow_add-self : goal.overflow_add-self
overflow_add-self c = omega (
  arith,
  c.self.invariant.3,
  c.count_noise.ensures.few,
  sum-few c.self.inside.noise.items (search (arith, c.self.invariant.1)) c.self.invariant.1.1,
)

pub invariant_of-self : goal.invariant_of-self
invariant_of-self c =
    let are : AreNoiseNumbers (with_noise c.self.inside.noise.items) = with_noise-are c.self.inside.noise.items c.self.invariant.1 in
    let now : c.count_noise.new.noise.items ≡ with_noise c.self.inside.noise.items = cc in (
      cc,
      rw now are,
      c.self.invariant.2,
      omega (arith, c.self.invariant.3, c.count_noise.ensures.more, ap (λ (xs : List ℕ). sum xs) now),
      c.self.invariant.4,
    )
