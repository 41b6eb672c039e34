-- The step of a loop over a journal: the entry that is read is the first of those that are left.
use Rattle.std.proofs.Common.{◌≡◌, ◌+◌, ◌<◌, ◌≤◌, ℕ, List, [], ◌∷◌, ◌++◌, Bool, true, false, Option, Some, None, cond, drop, length, get_or}
use Rattle.std.proofs.Common.{map, arith, refl, ap, sym, ◌∙◌, append_assoc}
use Rattle.std.specs.Prelude.{count_by, filter, filter_map}
use Rattle.std.specs.List.{cons_option}
use Rattle.std.proofs.lemmas.List.Sums.{sum_by-cons}
use Rattle.dmr_core.specs.declared.entry.Entry.{Entry}
use Rattle.dmr_keeper.specs.Ticks.{is_tick, tick_at, ticks_in, told_along}
use Rattle.dmr_pdu.proofs.ListLaws.{rest_is}

-- the ticks of a journal are that of its first entry and those of the others
pub ticks-cons : (ticks : ℕ) (entry : Entry) (later : List Entry) → tick_at ticks entry.event + ticks_in later ≡ ticks + ticks_in
    (entry ∷ later)
ticks-cons ticks entry later =
    let first = sum_by-cons (λ (e : Entry). cond (is_tick e.event) 1 0) entry later in
    omega (arith, first)

-- the ticks so far and those of the entries that are left, after one more entry
pub ticks_stay : (journal : List Entry) (i ticks all : ℕ) (entry : Entry) → i < length journal → entry ≡ get_or journal i entry →
    ticks + ticks_in (drop i journal) ≡ all → tick_at ticks entry.event + ticks_in (drop (i + 1) journal) ≡ all
ticks_stay journal i ticks all entry within read so_far =
    ticks-cons ticks entry (drop (i + 1) journal) ∙ ap (λ (xs : List Entry). ticks + ticks_in xs)
    (sym (rest_is journal i entry within read)) ∙ so_far

-- the ticks with that of the next entry are no more than all of them
pub tick_fits : (journal : List Entry) (i ticks all : ℕ) (entry : Entry) → i < length journal → entry ≡ get_or journal i entry →
    ticks + ticks_in (drop i journal) ≡ all → tick_at ticks entry.event ≤ all
tick_fits journal i ticks all entry within read so_far = omega (arith, ticks_stay journal i ticks all entry within read so_far)

-- a count so far and that of the entries that are left, after one more entry
pub count_stays : (test : Entry → Bool) (journal : List Entry) (i count all : ℕ) (entry : Entry) (one : ℕ) → i < length journal →
    entry ≡ get_or journal i entry → one ≡ cond (test entry) 1 0 → count + count_by test (drop i journal) ≡ all →
    count + one + count_by test (drop (i + 1) journal) ≡ all
count_stays test journal i count all entry one within read is so_far =
    let first = sum_by-cons (λ (e : Entry). cond (test e) 1 0) entry (drop (i + 1) journal) in
    let rest = ap (λ (xs : List Entry). count_by test xs) (rest_is journal i entry within read) in
    omega (arith, first, rest, is, so_far)

-- a state that goes on with each element
pub gone_on : {S A R : Type 0} (F : S → List A → R) (step : S → A → S) → ((s : S) (x : A) (xs : List A) → F s (x ∷ xs) ≡ F (step s x) xs)
    → (xs : List A) (i : ℕ) (x : A) (now then : S) (all : R) → i < length xs → x ≡ get_or xs i x → then ≡ step now x →
    F now (drop i xs) ≡ all → F then (drop (i + 1) xs) ≡ all
gone_on {S} {A} F step unfolds xs i x now then all within read went so_far =
    ap (λ (s : S). F s (drop (i + 1) xs)) went
    ∙ sym (unfolds now x (drop (i + 1) xs))
    ∙ ap (λ (ys : List A). F now ys) (sym (rest_is xs i x within read))
    ∙ so_far

-- what each element says is added to what was said, and the state goes on with it
pub said_on : {S A Y : Type 0} (F : S → List A → List Y) (says : S → A → List Y) (step : S → A → S) →
    ((s : S) (x : A) (xs : List A) → F s (x ∷ xs) ≡ says s x ++ F (step s x) xs)
    → (xs : List A) (i : ℕ) (x : A) (now then : S) (out more all : List Y) → i < length xs → x ≡ get_or xs i x → then ≡ step now x →
    more ≡ out ++ says now x
    → out ++ F now (drop i xs) ≡ all → more ++ F then (drop (i + 1) xs) ≡ all
said_on {S} {A} {Y} F says step unfolds xs i x now then out more all within read went is so_far =
    let rest = drop (i + 1) xs in
    ap (λ (ys : List Y). ys ++ F then rest) is
    ∙ append_assoc out (says now x) (F then rest)
    ∙ ap (λ (s : S). out ++ (says now x ++ F s rest)) went
    ∙ ap (λ (ys : List Y). out ++ ys) (sym (unfolds now x rest))
    ∙ ap (λ (ys : List A). out ++ F now ys) (sym (rest_is xs i x within read))
    ∙ so_far

-- an element that passes adds its value
pub kept_one : {X Y : Type 0} (f : X → Y) (p : X → Bool) (xs : List X) (i : ℕ) (x : X) (out more all : List Y) → i < length xs →
    x ≡ get_or xs i x → p x ≡ true → more ≡ out ++ f x ∷ []
    → out ++ map f (filter p (drop i xs)) ≡ all → more ++ map f (filter p (drop (i + 1) xs)) ≡ all
kept_one {X} {Y} f p xs i x out more all within read passes is so_far =
    let rest = drop (i + 1) xs in
    ap (λ (ys : List Y). ys ++ map f (filter p rest)) is
    ∙ append_assoc out (f x ∷ []) (map f (filter p rest))
    ∙ ap (λ (b : Bool). out ++ map f (cond b (x ∷ filter p rest) (filter p rest))) (sym passes)
    ∙ ap (λ (ys : List X). out ++ map f (filter p ys)) (sym (rest_is xs i x within read))
    ∙ so_far

-- an element that does not pass adds nothing
pub left_one : {X Y : Type 0} (f : X → Y) (p : X → Bool) (xs : List X) (i : ℕ) (x : X) (out all : List Y) → i < length xs →
    x ≡ get_or xs i x → p x ≡ false
    → out ++ map f (filter p (drop i xs)) ≡ all → out ++ map f (filter p (drop (i + 1) xs)) ≡ all
left_one {X} {Y} f p xs i x out all within read fails so_far =
    let rest = drop (i + 1) xs in
    ap (λ (b : Bool). out ++ map f (cond b (x ∷ filter p rest) (filter p rest))) (sym fails)
    ∙ ap (λ (ys : List X). out ++ map f (filter p ys)) (sym (rest_is xs i x within read))
    ∙ so_far

-- an element that has a value adds it
pub given_one : {X Y : Type 0} (h : X → Option Y) (xs : List X) (i : ℕ) (x : X) (y : Y) (out more all : List Y) → i < length xs →
    x ≡ get_or xs i x → h x ≡ Some y → more ≡ out ++ y ∷ []
    → out ++ filter_map h (drop i xs) ≡ all → more ++ filter_map h (drop (i + 1) xs) ≡ all
given_one {X} {Y} h xs i x y out more all within read some is so_far =
    let rest = drop (i + 1) xs in
    ap (λ (ys : List Y). ys ++ filter_map h rest) is
    ∙ append_assoc out (y ∷ []) (filter_map h rest)
    ∙ ap (λ (o : Option Y). out ++ cons_option o (filter_map h rest)) (sym some)
    ∙ ap (λ (ys : List X). out ++ filter_map h ys) (sym (rest_is xs i x within read))
    ∙ so_far

-- an element that has none adds nothing
pub given_none : {X Y : Type 0} (h : X → Option Y) (xs : List X) (i : ℕ) (x : X) (out all : List Y) → i < length xs → x ≡ get_or xs i x →
    h x ≡ None
    → out ++ filter_map h (drop i xs) ≡ all → out ++ filter_map h (drop (i + 1) xs) ≡ all
given_none {X} {Y} h xs i x out all within read none so_far =
    let rest = drop (i + 1) xs in
    ap (λ (o : Option Y). out ++ cons_option o (filter_map h rest)) (sym none)
    ∙ ap (λ (ys : List X). out ++ filter_map h ys) (sym (rest_is xs i x within read))
    ∙ so_far

-- what the entries of a journal say, after one more entry
pub told_on : {X : Type 0} (says : ℕ → Entry → List X) (journal : List Entry) (i ticks : ℕ) (entry : Entry) (then : ℕ)
    (told more all : List X) → i < length journal → entry ≡ get_or journal i entry
    → then ≡ tick_at ticks entry.event → more ≡ told ++ says then entry → told ++ told_along says ticks (drop i journal) ≡ all →
    more ++ told_along says then (drop (i + 1) journal) ≡ all
told_on {X} says journal i ticks entry then told more all within read went is so_far =
    said_on (told_along says) (λ (n : ℕ) (e : Entry). says (tick_at n e.event) e) (λ (n : ℕ) (e : Entry). tick_at n e.event)
    (λ n e es. refl) journal i entry ticks then told more all within read went
    (is ∙ ap (λ (n : ℕ). told ++ says n entry) went) so_far
