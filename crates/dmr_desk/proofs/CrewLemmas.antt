-- Workers and their seats, one after another.
use Rattle.std.proofs.Common.{◌≡◌, ℕ, zero, suc, ◌+◌, ◌==◌, ◌&&◌, Bool, true, false, List, [], ◌∷◌, ◌++◌, length, slice_index_or, remove}
use Rattle.std.proofs.Common.{All, Option, Some, None, ◌<◌, refl, sym, ◌∙◌, ap, subst, arith}
use Rattle.std.specs.Prelude.{IfSome}
use Rattle.std.proofs.lemmas.List.{length-append}
use Rattle.std.proofs.lemmas.Bool.{eq-eqb, eqb-true}
use Rattle.dmr_link.specs.declared.desk.Deposit.{Deposit}
use Rattle.dmr_desk.specs.Seats.{SeatState, empty_seats}
use Rattle.dmr_desk.specs.declared.actors.LinkWork.{LinkWork}
use Rattle.dmr_desk.specs.declared.pace.Pacer.{Ghosts as Pacer}
use Rattle.dmr_desk.specs.declared.station.Serving.{Ghosts as Serving}
use Rattle.dmr_desk.specs.declared.threads.AllWork.{AllWork}
use Rattle.dmr_desk.specs.declared.threads.TickerAndConsole.{TickerAndConsole}
use Rattle.dmr_desk.specs.Crew.{AllDone, AllWorked, IsTicked, IsWorkDone}
use Rattle.dmr_desk.specs.Term.{IsNew, AreNew, is_none, is_new, are_new}

-- ---- work

pub all_done_length : {S L : Type 0} (serving : Serving S) (n : ℕ) (ss : List S) (ws : List (LinkWork S L)) → AllDone serving n ss ws →
    length ws ≡ length ss
all_done_length serving n [] [] h = refl
all_done_length serving n (s ∷ ss) (w ∷ ws) h = ap (λ k. suc k) (all_done_length serving (n + 1) ss ws h.1)
all_done_length serving n [] (w ∷ ws) h = absurd h
all_done_length serving n (s ∷ ss) [] h = absurd h

-- ---- new seats

pub new_snoc : (n : ℕ) (xs : List SeatState) (x : SeatState) → AreNew n xs → IsNew (n + length xs) x → AreNew n (xs ++ x ∷ [])
new_snoc n [] x h k =
    let e : n + 0 ≡ n = omega arith in
    let P : ℕ → Type 0 = λ m. IsNew m x in (subst P e k, tt)
new_snoc n (y ∷ xs) x h k =
    let e : n + suc (length xs) ≡ n + 1 + length xs = omega arith in
    let P : ℕ → Type 0 = λ m. IsNew m x in (h.0, new_snoc (n + 1) xs x h.1 (subst P e k))

-- all but the last, and the last
pub new_init : (n : ℕ) (xs : List SeatState) (x : SeatState) → AreNew n (xs ++ x ∷ []) → AreNew n xs × IsNew (n + length xs) x
new_init n [] x h =
    let e : n ≡ n + 0 = omega arith in
    let P : ℕ → Type 0 = λ m. IsNew m x in (tt, subst P e h.0)
new_init n (y ∷ xs) x h =
    let rest = new_init (n + 1) xs x h.1 in
    let e : n + 1 + length xs ≡ n + suc (length xs) = omega arith in
    let P : ℕ → Type 0 = λ m. IsNew m x in ((h.0, rest.0), subst P e rest.1)

pub new_but_last : (xs ys : List SeatState) (x : SeatState) → xs ≡ ys ++ x ∷ [] → AreNew 0 xs → AreNew 0 ys × IsNew (length ys) x
new_but_last xs ys x e h =
    let P : List SeatState → Type 0 = AreNew 0 in
    let Q : ℕ → Type 0 = λ n. IsNew n x in
    let both = new_init 0 ys x (subst P e h) in
    let z : 0 + length ys ≡ length ys = omega arith in (both.0, subst Q z both.1)

-- new seats have no deposits
new_empty_at : (n : ℕ) (xs : List SeatState) → AreNew n xs → (k : ℕ) (d : SeatState) → k < length xs → (slice_index_or xs k d).deposits ≡ []
new_empty_at n [] new k d few = absurd (omega arith)
new_empty_at n (x ∷ xs) new zero d few = new.0.1
new_empty_at n (x ∷ xs) new (suc k) d few = new_empty_at (n + 1) xs new.1 k d (omega arith)

pub new_empty : (n : ℕ) (xs : List SeatState) → AreNew n xs → All (λ (x : SeatState). x.deposits ≡ []) xs
new_empty n xs new = λ k d few. new_empty_at n xs new k d few

-- ---- the first of a list

pub first_of : {A : Type 0} (xs left : List A) (x : A) → 0 < length xs → x ≡ slice_index_or xs 0 x → left ≡ remove xs 0 → xs ≡ x ∷ left
first_of [] left x some value rest = absurd (omega arith)
first_of (y ∷ ys) left x some value rest = cc

-- its work and that of the others
pub all_done_cons : {S L : Type 0} (serving : Serving S) (stations left : List S) (station : S) (seats others : List SeatState)
    (seat : SeatState) (n : ℕ) (w : LinkWork S L) (ws : List (LinkWork S L)) → stations ≡ station ∷ left → seats ≡ seat ∷ others →
    AreNew n seats
    → IsWorkDone serving seat.actor station w → (AreNew (n + 1) others → AllDone serving (n + 1) left ws) →
    AllDone serving n stations (w ∷ ws)
all_done_cons {S = S} serving stations left station seats others seat n w ws first second new done rest =
    let P : List SeatState → Type 0 = AreNew n in
    let both = subst P second new in
    let Q : ℕ → Type 0 = λ m. IsWorkDone serving m station w in
    let R : List S → Type 0 = λ xs. AllDone serving n xs (w ∷ ws) in
    subst R (sym first) (subst Q both.0.0 done, rest both.1)

pub all_tail : {A : Type 0} (P : A → Type 0) (xs left : List A) (x : A) → xs ≡ x ∷ left → All P xs → P x × All P left
all_tail {A = A} P xs left x same all =
    let Q : List A → Type 0 = All P in
    let both = subst Q same all in
    (both 0 x (omega arith), λ k d few. both (suc k) d (omega arith))

empty_length : (n : ℕ) → length (empty_seats n) ≡ n
empty_length zero = refl
empty_length (suc n) =
    let e = length-append (empty_seats n) ((record { actor = n; deposits = [] }) ∷ []) in
    let k = empty_length n in omega arith

pub empty_new : (n : ℕ) → AreNew 0 (empty_seats n)
empty_new zero = tt
empty_new (suc n) =
    let k = empty_length n in
    let e : n ≡ 0 + length (empty_seats n) =
    omega arith in new_snoc 0 (empty_seats n) (record { actor = n; deposits = [] }) (empty_new n) (e, refl)

-- ---- as tests

none_if : (ds : List Deposit) → is_none ds ≡ true → ds ≡ []
none_if [] e = refl
none_if (d ∷ ds) e = absurd cc

both_if : (a b : Bool) → (a && b) ≡ true → (a ≡ true) × (b ≡ true)
both_if true b e = (refl, e)
both_if false b e = absurd cc

pub new_if : (n : ℕ) (x : SeatState) → is_new n x ≡ true → IsNew n x
new_if n x e = let both = both_if (x.actor == n) (is_none x.deposits) e in (eqb-true x.actor n both.0, none_if x.deposits both.1)

pub all_new_if : (n : ℕ) (xs : List SeatState) → are_new n xs ≡ true → AreNew n xs
all_new_if n [] e = tt
all_new_if n (x ∷ xs) e = let both = both_if (is_new n x) (are_new (n + 1) xs) e in (new_if n x both.0, all_new_if (n + 1) xs both.1)

pub new_then : (n : ℕ) (x : SeatState) → IsNew n x → is_new n x ≡ true
new_then n x h =
    let a : (x.actor == n) ≡ true = eq-eqb x.actor n h.0 in
    let b : is_none x.deposits ≡ true = ap is_none h.1 in
    (λ i. a i && b i)

pub all_new_then : (n : ℕ) (xs : List SeatState) → AreNew n xs → are_new n xs ≡ true
all_new_then n [] h = refl
all_new_then n (x ∷ xs) h =
    let a = new_then n x h.0 in
    let b = all_new_then (n + 1) xs h.1 in
    (λ i. a i && b i)

-- the last two of the seats are the ticker's and the console's
pub crew_of : (n : ℕ) (seats middle rest : List SeatState) (console pacer : SeatState) → seats ≡ empty_seats (n + 2) →
    seats ≡ middle ++ console ∷ [] → middle ≡ rest ++ pacer ∷ []
    → (length rest ≡ n) × AreNew 0 rest × IsNew n pacer × IsNew (n + 1) console
crew_of n seats middle rest console pacer all first second =
    let P : List SeatState → Type 0 = AreNew 0 in
    let new : AreNew 0 seats = subst P (sym all) (empty_new (n + 2)) in
    let a = new_but_last seats middle console first new in
    let b = new_but_last middle rest pacer second a.0 in
    let m : length seats ≡ n + 2 = ap length all ∙ empty_length (n + 2) in
    let p : length seats ≡ length middle + 1 = ap length first ∙ length-append middle (console ∷ []) in
    let q : length middle ≡ length rest + 1 = ap length second ∙ length-append rest (pacer ∷ []) in
    let r : length rest ≡ n = omega arith in
    let t : length middle ≡ n + 1 = omega arith in
    let Q : ℕ → Type 0 = λ i. IsNew i pacer in
    let R : ℕ → Type 0 = λ i. IsNew i console in (r, b.0, subst Q r b.1, subst R t a.1)

-- the workers of a crew with new seats
pub all_worked : {S T C L : Type 0} (serving : Serving S) (pacing : Pacer T) (its : Serving C) (stations : List S)
    (others : TickerAndConsole T C L) (result : Option (AllWork S T C L)) → others.pacer_seat.actor ≡ length stations →
    others.console_seat.actor ≡ length stations + 1
    → IfSome result (λ all. AllDone serving 0 stations all.carriers.items) →
    IfSome result (λ all. IsTicked pacing others.pacer_seat.actor others.pacer all.ticker) →
    IfSome result (λ all. IsWorkDone its others.console_seat.actor others.console all.console)
    → IfSome result (AllWorked serving pacing its stations others.pacer others.console)
all_worked serving pacing its stations others None first second carriers ticker last = tt
all_worked serving pacing its stations others (Some all) first second carriers ticker last =
    let P : ℕ → Type 0 = λ n. IsTicked pacing n others.pacer all.ticker in
    let Q : ℕ → Type 0 = λ n. IsWorkDone its n others.console all.console in
    record { carriers = carriers; ticker = subst P first ticker; last = subst Q second last }
