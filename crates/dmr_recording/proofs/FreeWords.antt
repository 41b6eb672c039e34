-- Octets without some octet, and the parts of octets between these.
use Rattle.std.proofs.Common.{◌≡◌, ℕ, zero, suc, ◌+◌, ◌%◌, ◌^◌, ◌<◌, ◌≤◌, Bool, true, false, not, ◌&&◌, List, [], ◌∷◌, ◌++◌, length, get_or}
use Rattle.std.proofs.Common.{Some, eqb, decimal, refl, ap, ◌∙◌, arith, ne_eqb, eq-eqb, lt-ltb, le-leb}
use Rattle.std.specs.Prelude.{slice_index, ◌==◌, nat_lt}
use Rattle.std.specs.List.{slice_split, AllPass, onto_first}
use Rattle.std.specs.Str.{all_ascii_digits}
use Rattle.std.specs.Str.Parse.{digits_value}
use Rattle.std.proofs.lemmas.Bool.{and_parts}
use Rattle.std.proofs.lemmas.Fmt.{decimal_is_IsNumeral, decimal_by_steps, decimal_digit, decimal_nonempty, digits_decimal, first_decimal}
use Rattle.std.proofs.lemmas.Fmt.{length-decimal-le}
use Rattle.std.proofs.lemmas.List.Splits.{slice_split-cons_yes, slice_split-cons_no}
use Rattle.std.proofs.lemmas.Str.Parse.{numerals_by_value, tells_all_ascii_digits}
use Rattle.hex.specs.Hex.{encode_upper, is_hex_digit, IsBytes}
use Rattle.hex.proofs.HexLemmas.{decode_of-encode_upper, decode_of-ok}
use Rattle.dmr_console.specs.Words.{short_number_within}
use Rattle.dmr_replay.specs.Script.{number_of_word, words_of_script_line}
use Rattle.std.proofs.Math.Bool.{and-false}

-- no element is this octet
abbrev pub IsFree : ℕ → List ℕ → Type 0
IsFree c [] = Unit {0}
IsFree c (x ∷ xs) = (eqb x c ≡ false) × IsFree c xs

abbrev pub is_free : ℕ → List ℕ → Bool
is_free c [] = true
is_free c (x ∷ xs) = not (eqb x c) && is_free c xs

not_true : (b : Bool) → not b ≡ true → b ≡ false
not_true true e = cc
not_true false e = refl

pub free_by : (c : ℕ) (xs : List ℕ) → is_free c xs ≡ true → IsFree c xs
free_by c [] e = tt
free_by c (x ∷ xs) e =
    let parts = and_parts (not (eqb x c)) (is_free c xs) e in
    (not_true (eqb x c) parts.0, free_by c xs parts.1)

pub free-append : (c : ℕ) (xs ys : List ℕ) → IsFree c xs → IsFree c ys → IsFree c (xs ++ ys)
free-append c [] ys first second = second
free-append c (x ∷ xs) ys first second = (first.0, free-append c xs ys first.1 second)

pub free-at : (c : ℕ) (xs : List ℕ) (k : ℕ) → 0 < c → IsFree c xs → eqb (slice_index xs k) c ≡ false
free-at c [] k some free = ne_eqb 0 c (λ e. omega (arith, e))
free-at c (x ∷ xs) zero some free = free.0
free-at c (x ∷ xs) (suc k) some free = free-at c xs k some free.1

-- ---- parts

pub split_at : (c : ℕ) (xs ys : List ℕ) → IsFree c xs → slice_split (λ o. o == c) (xs ++ c ∷ ys) ≡ xs ∷ slice_split (λ o. o == c) ys
split_at c [] ys free = slice_split-cons_yes (λ o. o == c) c ys (eq-eqb c c refl)
split_at c (x ∷ xs) ys free = slice_split-cons_no (λ o. o == c) x (xs ++ c ∷ ys) free.0 ∙ ap (onto_first x) (split_at c xs ys free.1)

pub split_none : (c : ℕ) (xs : List ℕ) → IsFree c xs → slice_split (λ o. o == c) xs ≡ xs ∷ []
split_none c [] free = refl
split_none c (x ∷ xs) free = slice_split-cons_no (λ o. o == c) x xs free.0 ∙ ap (onto_first x) (split_none c xs free.1)

-- ---- numbers

differs : (c d : ℕ) → c < 48 → eqb (48 + d) c ≡ false
differs c d small = ne_eqb (48 + d) c (λ e. omega (arith, e, small))

pub decimal_free : (c : ℕ) → c < 48 → (n : ℕ) → n < 2 ^ 64 → IsFree c (decimal n)
decimal_free c small = decimal_by_steps (λ n ds. IsFree c ds) (λ n l. (differs c n small, tt))
    (λ n ds l h. free-append c ds ((48 + n % 10) ∷ []) h (differs c (n % 10) small, tt))

leads : (n : ℕ) → n < 2 ^ 64 → (nat_lt 1 (length (decimal n)) && (slice_index (decimal n) 0 == 48)) ≡ false
leads zero fits = ap (λ (ds : List ℕ). nat_lt 1 (length ds) && (slice_index ds 0 == 48)) (decimal_digit 0 (omega arith))
leads (suc m) fits =
    let first : 48 < get_or (decimal (suc m)) 0 0 = first_decimal (suc m) (omega arith) fits in
    ap (λ (b : Bool). nat_lt 1 (length (decimal (suc m))) && b) (ne_eqb (get_or (decimal (suc m)) 0 0) 48 (λ e. omega (arith, e, first)))
    ∙ and-false (nat_lt 1 (length (decimal (suc m))))

module _ (least most n : ℕ) (low : least ≤ n) (high : n ≤ most) (small : most < 100000000) where
  fits : n < 2 ^ 64
  fits = omega arith

  short : length (decimal n) ≤ 8
  short = length-decimal-le 8 n (omega arith) (omega arith) fits

  digits : all_ascii_digits (decimal n) ≡ true
  digits = digits_decimal (numerals_by_value _ tells_all_ascii_digits) n fits

  value : digits_value 10 (decimal n) ≡ n
  value = (decimal_is_IsNumeral n fits).1

  pub short_number : short_number_within least most (decimal n) ≡ Some n
  short_number = rw (
    lt-ltb 0 (length (decimal n)) (decimal_nonempty n fits),
    le-leb (length (decimal n)) 8 short,
    digits,
    value,
    le-leb least n low,
    le-leb n most high,
  ) refl

  pub number_word : number_of_word least most (decimal n) ≡ Some n
  number_word = rw (leads n fits) short_number

-- ---- hexadecimal digits

pass_free : (c : ℕ) (xs : List ℕ) → is_hex_digit c ≡ false → AllPass is_hex_digit xs → IsFree c xs
pass_free c [] not_digit all = tt
pass_free c (x ∷ xs) not_digit all =
    (ne_eqb x c (λ e. cc (e, not_digit, all 0 x (omega arith))), pass_free c xs not_digit (λ k d l. all (suc k) d (omega (arith, l))))

pub encode_free : (c : ℕ) → is_hex_digit c ≡ false → (xs : List ℕ) → IsBytes xs → IsFree c (encode_upper xs)
encode_free c not_digit xs bytes =
    pass_free c (encode_upper xs) not_digit (decode_of-ok (encode_upper xs) xs (decode_of-encode_upper xs bytes)).1

-- ---- words

pub two_words : (name w : List ℕ) → IsFree 32 name → IsFree 32 w → words_of_script_line (name ++ 32 ∷ w) ≡ name ∷ w ∷ []
two_words name w a b = split_at 32 name w a ∙ ap (λ (ws : List (List ℕ)). name ∷ ws) (split_none 32 w b)

pub three_words : (name v w : List ℕ) → IsFree 32 name → IsFree 32 v → IsFree 32 w →
    words_of_script_line (name ++ 32 ∷ (v ++ 32 ∷ w)) ≡ name ∷ v ∷ w ∷ []
three_words name v w a b c = split_at 32 name (v ++ 32 ∷ w) a ∙ ap (λ (ws : List (List ℕ)). name ∷ ws) (two_words v w b c)
