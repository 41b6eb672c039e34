use Rattle.std.proofs.Common.{arith, ◌≡◌, sum, length, ap, List, ℕ}
use Rattle.dmr_access.specs.Noise.{AreNoiseNumbers, with_poll}
use Rattle.dmr_access.proofs.NoiseLemmas.{with_poll-are}
use Rattle.dmr_access.proofs.access.Access.polled.Goals as goal

pub invariant_of-self : goal.invariant_of-self
invariant_of-self c =
    let all : length c.self.inside.noise.items ≡ 32 = search arith in
    let are : AreNoiseNumbers (with_poll c.self.inside.noise.items) = with_poll-are c.self.inside.noise.items all c.self.invariant.1 in
    let now : c.begin_number.new.noise.items ≡ with_poll c.self.inside.noise.items = cc in (
      cc,
      rw now are,
      c.self.invariant.2,
      omega (arith, c.self.invariant.3, c.begin_number.ensures.fewer, ap (λ (xs : List ℕ). sum xs) now),
      c.self.invariant.4,
    )
