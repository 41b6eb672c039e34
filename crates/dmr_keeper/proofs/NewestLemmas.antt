-- Records for which there is room: those of the newest 1,000 terms.
use Rattle.std.proofs.Common.{◌≡◌, ℕ, zero, suc, ◌+◌, ◌-◌, ◌<◌, ◌≤◌, List, [], ◌∷◌, ◌++◌, length, drop, length-append, length-drop}
use Rattle.std.proofs.Common.{drop-drop, append_assoc, refl, sym, subst, ◌∙◌, ap, arith}
use Rattle.dmr_keeper.specs.declared.time.TimedRecords.{TimedRecords}
use Rattle.dmr_keeper.specs.Handing.{newest}

pub drop_within : {A : Type 0} (k : ℕ) (xs ys : List A) → k ≤ length xs → drop k (xs ++ ys) ≡ drop k xs ++ ys
drop_within zero xs ys few = refl
drop_within (suc k) [] ys few = absurd (omega (arith, few))
drop_within (suc k) (x ∷ xs) ys few = drop_within k xs ys (omega (arith, few))

-- there is room for all
pub newest_of_few : (terms : List TimedRecords) → length terms ≤ 1000 → newest terms ≡ terms
newest_of_few terms few =
    let none : length terms - 1000 ≡ 0 = omega (arith, few) in
    ap (λ n. drop n terms) none

-- there is no room for the oldest
pub newest_but_one : (oldest : TimedRecords) (terms : List TimedRecords) → length terms ≡ 1000 → newest (oldest ∷ terms) ≡ terms
newest_but_one oldest terms many =
    let one : length (oldest ∷ terms) - 1000 ≡ 1 = omega (arith, many) in
    ap (λ n. drop n (oldest ∷ terms)) one

pub few_newest : (terms : List TimedRecords) → length (newest terms) ≤ 1000
few_newest terms =
    let long = length-drop (length terms - 1000) terms in
    omega (arith, long)

-- if the newest are taken first
pub newest_again : (terms later : List TimedRecords) → newest (newest terms ++ later) ≡ newest (terms ++ later)
newest_again terms later =
    let k = length terms - 1000 in
    let within : drop k (terms ++ later) ≡ drop k terms ++ later = drop_within k terms later (omega arith) in
    let m = length (drop k terms ++ later) - 1000 in
    let long = length-append (drop k terms) later in
    let dropped = length-drop k terms in
    let all = length-append terms later in
    let sum : k + m ≡ length (terms ++ later) - 1000 = omega (arith, long, dropped, all) in
    ap (λ xs. drop m xs) (sym within) ∙ drop-drop m k (terms ++ later) ∙ ap (λ n. drop n (terms ++ later)) sum

-- one more after those that wait, for which there is room
pub added_within : (old new : List TimedRecords) (term : TimedRecords) → length old < 1000 → new ≡ old ++ term ∷ [] →
    new ≡ newest (old ++ term ∷ [])
added_within old new term few is =
    let long = length-append old (term ∷ []) in
    is ∙ sym (newest_of_few (old ++ term ∷ []) (omega (arith, few, long)))

-- one more instead of the oldest
pub added_instead : (old rest new : List TimedRecords) (oldest term : TimedRecords) → old ≡ oldest ∷ rest → length old ≡ 1000 →
    new ≡ rest ++ term ∷ [] → new ≡ newest (old ++ term ∷ [])
added_instead old rest new oldest term begins full is =
    let shorter : length (oldest ∷ rest) ≡ 1000 = ap length (sym begins) ∙ full in
    let long = length-append rest (term ∷ []) in
    is ∙ sym (newest_but_one oldest (rest ++ term ∷ []) (omega (arith, shorter, long)))
    ∙ ap (λ (terms : List TimedRecords). newest (terms ++ term ∷ [])) (sym begins)

-- the oldest of the later ones is moved
pub moved_one : (all mine new later rest : List TimedRecords) (term : TimedRecords) → newest (mine ++ later) ≡ all → later ≡ term ∷ rest →
    new ≡ newest (mine ++ term ∷ []) → newest (new ++ rest) ≡ all
moved_one all mine new later rest term before begins is =
    let P : List TimedRecords → Type 0 = λ terms. newest (terms ++ rest) ≡ newest (mine ++ later) in
    let Q : List TimedRecords → Type 0 = λ terms. newest ((mine ++ term ∷ []) ++ rest) ≡ newest (mine ++ terms) in
    let joined : newest ((mine ++ term ∷ []) ++ rest) ≡ newest (mine ++ term ∷ rest) = ap newest (append_assoc mine (term ∷ []) rest) in
    subst P (sym is) (newest_again (mine ++ term ∷ []) rest ∙ subst Q (sym begins) joined) ∙ before
