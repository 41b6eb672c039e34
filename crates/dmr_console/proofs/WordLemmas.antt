-- The first word of a line.
use Rattle.std.proofs.Common.{◌≡◌, ◌&&◌, get_or, add-one, pow-suc, ◌*◌, ◌^◌, ℕ, ◌+◌, ◌-◌, ◌<◌, ◌≤◌, Bool, true, false, cond, not, List, []}
use Rattle.std.proofs.Common.{◌∷◌, length, take, drop, eqb, ltb, refl, sym, ap, ◌∙◌, arith, suc, zero, filter, Option, Some, None}
use Rattle.std.proofs.Common.{unwrap_or, length-drop, subst}
use Rattle.std.proofs.lemmas.Bool.{ltb-true, ltb-false}
use Rattle.std.proofs.lemmas.List.{take_all, drop_more}
use Rattle.std.proofs.lemmas.Str.{digit_value_digit}
use Rattle.std.specs.Char.{IsAsciiDigit, digit_value, is_ascii_digit}
use Rattle.std.specs.Str.{all_ascii_digits}
use Rattle.std.specs.Str.Parse.{digits_value_after}
use Rattle.std.specs.List.{slice_split, onto_first, position_or_len}
use Rattle.std.proofs.lemmas.List.Recursion.{is_position_or_len}
use Rattle.dmr_console.specs.Words.{is_word, words_of_line}

abbrev space : ℕ → Bool
space octet = eqb octet 32

-- the place of the first octet that is not a space, and of the first space
abbrev begin_of : List ℕ → ℕ
begin_of [] = zero
begin_of (x ∷ xs) = cond (eqb x 32) (suc (begin_of xs)) zero

abbrev end_of : List ℕ → ℕ
end_of [] = zero
end_of (x ∷ xs) = cond (eqb x 32) zero (suc (end_of xs))

one_more : (n : ℕ) → suc n ≡ 1 + n
one_more n = omega arith

begin_at : (x : ℕ) (n : ℕ) (b : Bool) → cond b (suc n) zero ≡ cond (not b) 0 (1 + n)
begin_at x n true = one_more n
begin_at x n false = refl

end_at : (x : ℕ) (n : ℕ) (b : Bool) → cond b zero (suc n) ≡ cond b 0 (1 + n)
end_at x n true = refl
end_at x n false = one_more n

begin_is : (xs : List ℕ) → begin_of xs ≡ position_or_len (λ o. not (eqb o 32)) xs
begin_is xs = is_position_or_len begin_of (λ o. not (eqb o 32)) refl (λ y ys. begin_at y (begin_of ys) (eqb y 32)) xs

end_is : (xs : List ℕ) → end_of xs ≡ position_or_len (λ o. eqb o 32) xs
end_is xs = is_position_or_len end_of (λ o. eqb o 32) refl (λ y ys. end_at y (end_of ys) (eqb y 32)) xs

-- the parts after the first
abbrev after : List ℕ → List (List ℕ)
after [] = []
after (x ∷ xs) = slice_split space xs

split_cons : (x : ℕ) (xs : List ℕ) (b : Bool) → eqb x 32 ≡ b → slice_split space xs ≡ take (end_of xs) xs ∷ after (drop (end_of xs) xs) →
    slice_split space (x ∷ xs) ≡ take (end_of (x ∷ xs)) (x ∷ xs) ∷ after (drop (end_of (x ∷ xs)) (x ∷ xs))
split_cons x xs true e h = rw e refl
split_cons x xs false e h = rw e (ap (onto_first x) h)

split_at_end : (xs : List ℕ) → slice_split space xs ≡ take (end_of xs) xs ∷ after (drop (end_of xs) xs)
split_at_end [] = refl
split_at_end (x ∷ xs) = split_cons x xs (eqb x 32) refl (split_at_end xs)

after_cons : (x : ℕ) (xs : List ℕ) (b : Bool) → eqb x 32 ≡ b → filter is_word (after (drop (end_of xs) xs)) ≡ words_of_line
    (drop (end_of xs) xs) →
    filter is_word (after (drop (end_of (x ∷ xs)) (x ∷ xs))) ≡ words_of_line (drop (end_of (x ∷ xs)) (x ∷ xs))
after_cons x xs true e h =
    let at : end_of (x ∷ xs) ≡ zero = ap (λ (b : Bool). cond b zero (suc (end_of xs))) e in
    let P : ℕ → Type 0 = λ n. filter is_word (after (drop n (x ∷ xs))) ≡ words_of_line (drop n (x ∷ xs)) in
    let same : filter is_word (slice_split space xs) ≡ words_of_line (x ∷ xs) = rw e refl in
    subst P (sym at) same
after_cons x xs false e h =
    let at : end_of (x ∷ xs) ≡ suc (end_of xs) = ap (λ (b : Bool). cond b zero (suc (end_of xs))) e in
    let P : ℕ → Type 0 = λ n. filter is_word (after (drop n (x ∷ xs))) ≡ words_of_line (drop n (x ∷ xs)) in
    subst P (sym at) h

words_after : (xs : List ℕ) → filter is_word (after (drop (end_of xs) xs)) ≡ words_of_line (drop (end_of xs) xs)
words_after [] = refl
words_after (x ∷ xs) = after_cons x xs (eqb x 32) refl (words_after xs)

first_and_more : (x : ℕ) (xs : List ℕ) (parts : List (List ℕ)) → filter is_word ((x ∷ xs) ∷ parts) ≡ (x ∷ xs) ∷ filter is_word parts
first_and_more x xs parts = refl

-- the words of a line, by its first word
abbrev Parted : List ℕ → List ℕ → Type 0
Parted line rest = words_of_line line ≡ take (end_of rest) rest ∷ words_of_line (drop (end_of rest) rest)

word_first : (x : ℕ) (xs : List ℕ) → eqb x 32 ≡ false → Parted (x ∷ xs) (x ∷ xs)
word_first x xs e =
    let at : end_of (x ∷ xs) ≡ suc (end_of xs) = ap (λ (b : Bool). cond b zero (suc (end_of xs))) e in
    let P : ℕ → Type 0 = λ n. filter is_word (slice_split space (x ∷ xs)) ≡ take n (x ∷ xs) ∷ words_of_line (drop n (x ∷ xs)) in
    let parts : slice_split space (x ∷ xs) ≡ (x ∷ take (end_of xs) xs) ∷ after (drop (end_of xs) xs) =
    rw e (ap (onto_first x) (split_at_end xs)) in
    subst P (sym at)
    (ap (filter is_word) parts ∙ first_and_more x (take (end_of xs) xs) (after (drop (end_of xs) xs))
    ∙ ap (λ (ws : List (List ℕ)). (x ∷ take (end_of xs) xs) ∷ ws) (words_after xs))

parted_cons : (x : ℕ) (xs : List ℕ) (b : Bool) → eqb x 32 ≡ b → begin_of (x ∷ xs) < length (x ∷ xs) →
    (begin_of xs < length xs → Parted xs (drop (begin_of xs) xs)) → Parted (x ∷ xs) (drop (begin_of (x ∷ xs)) (x ∷ xs))
parted_cons x xs true e h more =
    let at : begin_of (x ∷ xs) ≡ suc (begin_of xs) = ap (λ (b : Bool). cond b (suc (begin_of xs)) zero) e in
    let P : ℕ → Type 0 = λ n. Parted (x ∷ xs) (drop n (x ∷ xs)) in
    let same : words_of_line (x ∷ xs) ≡ words_of_line xs = rw e refl in
    subst P (sym at) (same ∙ more (omega (arith, h, at)))
parted_cons x xs false e h more =
    let at : begin_of (x ∷ xs) ≡ zero = ap (λ (b : Bool). cond b (suc (begin_of xs)) zero) e in
    let P : ℕ → Type 0 = λ n. Parted (x ∷ xs) (drop n (x ∷ xs)) in
    subst P (sym at) (word_first x xs e)

parted : (line : List ℕ) → begin_of line < length line → Parted line (drop (begin_of line) line)
parted [] h = absurd (omega (arith, h))
parted (x ∷ xs) h = parted_cons x xs (eqb x 32) refl h (parted xs)

none_cons : (x : ℕ) (xs : List ℕ) (b : Bool) → eqb x 32 ≡ b → length (x ∷ xs) ≤ begin_of (x ∷ xs) →
    (length xs ≤ begin_of xs → words_of_line xs ≡ []) → words_of_line (x ∷ xs) ≡ []
none_cons x xs true e h more =
    let at : begin_of (x ∷ xs) ≡ suc (begin_of xs) = ap (λ (b : Bool). cond b (suc (begin_of xs)) zero) e in
    let same : words_of_line (x ∷ xs) ≡ words_of_line xs = rw e refl in
    same ∙ more (omega (arith, h, at))
none_cons x xs false e h more =
    let at : begin_of (x ∷ xs) ≡ zero = ap (λ (b : Bool). cond b (suc (begin_of xs)) zero) e in
    absurd (omega (arith, h, at))

none : (line : List ℕ) → length line ≤ begin_of line → words_of_line line ≡ []
none [] h = refl
none (x ∷ xs) h = none_cons x xs (eqb x 32) refl h (none xs)

end_within_cons : (x : ℕ) (xs : List ℕ) (b : Bool) → eqb x 32 ≡ b → end_of xs ≤ length xs → end_of (x ∷ xs) ≤ length (x ∷ xs)
end_within_cons x xs true e h =
    let at : end_of (x ∷ xs) ≡ zero = ap (λ (b : Bool). cond b zero (suc (end_of xs))) e in omega (arith, at)
end_within_cons x xs false e h =
    let at : end_of (x ∷ xs) ≡ suc (end_of xs) = ap (λ (b : Bool). cond b zero (suc (end_of xs))) e in omega (arith, at, h)

end_within : (xs : List ℕ) → end_of xs ≤ length xs
end_within [] = omega arith
end_within (x ∷ xs) = end_within_cons x xs (eqb x 32) refl (end_within xs)

-- the result of `position`
abbrev pub found : (ℕ → Bool) → List ℕ → Option ℕ
found test xs = cond (ltb (position_or_len test xs) (length xs)) (Some (position_or_len test xs)) None

some_at : (m n k : ℕ) (b : Bool) → ltb m n ≡ b → Some k ≡ cond b (Some m) None → (k ≡ m) × (m < n)
some_at m n k true l e = (cc, ltb-true m n l)
some_at m n k false l e = absurd cc

none_at : (m n : ℕ) (b : Bool) → ltb m n ≡ b → None ≡ cond b (Some m) None → n ≤ m
none_at m n true l e = absurd cc
none_at m n false l e = ltb-false m n l

or_len : (m n : ℕ) (b : Bool) → ltb m n ≡ b → m ≤ n → unwrap_or (cond b (Some m) None) n ≡ m
or_len m n true l h = refl
or_len m n false l h = omega (arith, h, ltb-false m n l)

pub no_word : (line : List ℕ) (r : Option ℕ) → r ≡ found (λ o. not (eqb o 32)) line → r ≡ None → words_of_line line ≡ []
no_word line r f e =
    let past : length line ≤ position_or_len (λ o. not (eqb o 32)) line =
    none_at (position_or_len (λ o. not (eqb o 32)) line) (length line) (ltb (position_or_len (λ o. not (eqb o 32)) line) (length line)) refl
    (sym e ∙ f) in
    none line (omega (arith, past, begin_is line))

-- the first word reaches from the first octet that is not a space to the next space
pub word_and_rest : (line rest front back : List ℕ) (b e : ℕ) (r q : Option ℕ) → r ≡ found (λ o. not (eqb o 32)) line → r ≡ Some b →
    rest ≡ take (length line - b) (drop b line) → q ≡ found (λ o. eqb o 32) rest → e ≡ unwrap_or q (length rest) →
    front ≡ take e rest → back ≡ drop e rest → words_of_line line ≡ front ∷ words_of_line back
word_and_rest line rest front back b e r q f is cut g at p n =
    let begin : (b ≡ position_or_len (λ o. not (eqb o 32)) line) × (position_or_len (λ o. not (eqb o 32)) line < length line) =
    some_at (position_or_len (λ o. not (eqb o 32)) line) (length line) b
    (ltb (position_or_len (λ o. not (eqb o 32)) line) (length line)) refl (sym is ∙ f) in
    let here : b ≡ begin_of line = begin.0 ∙ sym (begin_is line) in
    let whole : rest ≡ drop (begin_of line) line =
    cut ∙ take_all (length line - b) (drop b line) (omega (arith, length-drop b line)) ∙ ap (λ (k : ℕ). drop k line) here in
    let end : e ≡ end_of rest =
    at ∙ ap (λ (o : Option ℕ). unwrap_or o (length rest)) g
    ∙ or_len (position_or_len (λ o. eqb o 32) rest) (length rest) (ltb (position_or_len (λ o. eqb o 32) rest) (length rest)) refl
    (omega (arith, end_is rest, end_within rest))
    ∙ sym (end_is rest) in
    let P : List ℕ → Type 0 = λ xs. Parted line xs in
    let both : Parted line rest = subst P (sym whole) (parted line (omega (arith, begin.0, begin.1, here))) in
    both ∙ (λ i. (take (sym end i) rest) ∷ words_of_line (drop (sym end i) rest)) ∙ (λ i. (sym p i) ∷ words_of_line (sym n i))

-- ---- the number of a word

-- one digit more
pub digit_more : (n i : ℕ) (word : List ℕ) → i < length word → IsAsciiDigit (get_or word i 0) →
    digits_value_after 10 n (drop i word) ≡ digits_value_after 10 (n * 10 + (get_or word i 0 - 48)) (drop (i + 1) word)
digit_more n i word lt is =
    let digit : n * 10 + digit_value (get_or word i 0) ≡ n * 10 + (get_or word i 0 - 48) =
    omega (arith, digit_value_digit (get_or word i 0) is) in
    ap (digits_value_after 10 n) (drop_more word i 0 lt) ∙ ap (λ (m : ℕ). digits_value_after 10 m (drop (i + 1) word)) digit

pub digits_more : (i : ℕ) (word : List ℕ) → i < length word → true ≡ is_ascii_digit (get_or word i 0) →
    all_ascii_digits (drop i word) ≡ all_ascii_digits (drop (i + 1) word)
digits_more i word lt is =
    ap all_ascii_digits (drop_more word i 0 lt) ∙ ap (λ (b : Bool). b && all_ascii_digits (drop (i + 1) word)) (sym is)

pub small_more : (n i x : ℕ) → n < 10 ^ i → IsAsciiDigit x → n * 10 + (x - 48) < 10 ^ (i + 1)
small_more n i x lt is =
    let power : 10 ^ (i + 1) ≡ 10 ^ i * 10 = ap (λ (m : ℕ). 10 ^ m) (add-one i) ∙ pow-suc 10 i in
    omega (arith, lt, is, power)
