use Rattle.std.proofs.Common.{◌≡◌, ◌≤◌, ◌<◌, ◌^◌, ◌+◌, ◌-◌, ◌*◌, ℕ, drop, get_or, sym, ap, ◌∙◌, subst, arith}
use Rattle.std.specs.Str.Parse.{digits_value_after}
use Rattle.dmr_console.proofs.WordLemmas.{digit_more, digits_more, small_more}
use Rattle.std.proofs.Math.Nat.{pow-le-pow_right}
use Rattle.dmr_console.proofs.words.number_in.Goals as goal

pub overflow_mul-number : goal.overflow_mul-number
overflow_mul-number c =
    let most : 10 ^ c.loop-octet.octet-index ≤ 10 ^ 7 =
    pow-le-pow_right {n = 10} (omega arith) {i = c.loop-octet.octet-index} {j = 7} (omega arith) in
    omega (arith, c.loop-octet.invariant.small, most)

pub overflow_add-number : goal.overflow_add-number
overflow_add-number c =
    let most : 10 ^ c.loop-octet.octet-index ≤ 10 ^ 7 =
    pow-le-pow_right {n = 10} (omega arith) {i = c.loop-octet.octet-index} {j = 7} (omega arith) in
    omega (arith, c.loop-octet.invariant.small, most)

pub loop-octet-preserved : goal.loop-octet-preserved
loop-octet-preserved c =
    let word = c.args.word.now in
    let i = c.loop-octet.octet-index in
    let n = c.loop-octet.number in
    let x = c.from.ensures in
    let digit = c.if-not-is_ascii_digit.ensures.cases in
    let number : n * 10 + (get_or word i 0 - 48) ≡ n * 10 + c.from.result = ap (λ (d : ℕ). n * 10 + d) (sym x) in
    let P : ℕ → Type 0 = λ m. m < 10 ^ (i + 1) in
    record {
      value = sym (digit_more n i word c.loop-octet-test.true digit ∙ ap (λ (m : ℕ). digits_value_after 10 m (drop (i + 1) word)) number)
          ∙ c.loop-octet.invariant.value;
      digits = sym (digits_more i word c.loop-octet-test.true c.if-not-is_ascii_digit.ensures.value) ∙ c.loop-octet.invariant.digits;
      small = subst P number (small_more n i (get_or word i 0) c.loop-octet.invariant.small digit);
    }
