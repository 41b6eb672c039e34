use Rattle.std.proofs.Common.{◌≡◌, ℕ, ◌*◌, ◌%◌, ◌^◌, ◌<◌, ◌≤◌, Option, Some, sym, subst, arith}
use Rattle.std.specs.Option.{IfSome}
use Rattle.std.proofs.lemmas.Nat.{one_shl}
use Rattle.std.proofs.Math.Pow.{pow-lt}
use Rattle.dmr_recording.proofs.restored.options_to_stay.Goals as goal

-- a bit of the seven, shifted to its place, is below 128
bit_fits : (o : Option ℕ) (k : ℕ) → Some k ≡ o → IfSome o (λ n. (0 ≤ n) × (n ≤ 6)) → 1 * 2 ^ k % 4294967296 < 128
bit_fits o k is within =
    let few : (0 ≤ k) × (k ≤ 6) = subst (λ (p : Option ℕ). IfSome p (λ n. (0 ≤ n) × (n ≤ 6))) (sym is) within in
    let whole : 1 * 2 ^ k % 4294967296 ≡ 2 ^ k = one_shl k 32 (omega (arith, few.1)) in
    let small : 2 ^ k < 2 ^ 7 = pow-lt {i = k} {j = 7} (omega (arith, few.1)) in
    omega (arith, whole, small)

pub new-requires : goal.new-requires
new-requires c = (
  omega arith,
  (
    bit_fits c.args.plan.now.system.leave_bit c.in-Some.bit c.in-Some.ensures
        c.use_invariant.ensures.system.leave_bit,
    omega arith,
  ),
)
