-- Stations of a plan, and faults.
use Rattle.std.proofs.Common.{◌≡◌, ℕ, zero, suc, ◌+◌, ◌≤◌, Bool, true, false, cond, List, [], ◌∷◌, Option, Some, None, Result, Ok, Err}
use Rattle.std.proofs.Common.{length, map, refl, sym, ◌∙◌, ap, arith}
use Rattle.std.specs.Prelude.{IfErr, OnOk}
use Rattle.std.proofs.lemmas.Bool.{false≢true}
use Rattle.std.proofs.lemmas.List.{length-map}
use Rattle.dmr_core.specs.Facts.{has_carrier}
use Rattle.dmr_plan.specs.declared.settings.Settings.{Settings}
use Rattle.dmr_desk.specs.declared.fault.TermFault.{TermFault}
use Rattle.dmr_desk.specs.declared.fault.TermFault.TheVariants.{BadStations, Open, NoThread, Audit, Early}
use Rattle.dmr_desk.specs.Opening.{IsLimit}
use Rattle.dmr_desk.specs.Term.{Start, End}
use Rattle.dmr_desk.specs.Refusing.{AreStations, IsEndAt, IsFaultFor, IsTermFault, is_late, carrier_of_peer, numbers_from, carrier_numbers}
use Rattle.dmr_desk.specs.Refusing.{left_at}
use Rattle.dmr_desk.specs.Work.{StationState}

-- ---- the plan's numbers

at_most : (b : Bool) (xs : List ℕ) (many n : ℕ) → length xs ≤ many → length (cond b (n ∷ xs) xs) ≤ suc many
at_most true xs many n h = omega arith
at_most false xs many n h = omega arith

numbers_few : (plan : Settings) (many n : ℕ) → length (numbers_from plan many n) ≤ many
numbers_few plan zero n = omega arith
numbers_few plan (suc many) n = at_most (has_carrier plan n) (numbers_from plan many (n + 1)) many n (numbers_few plan many (n + 1))

pub stations_few : (plan : Settings) (stations : List StationState) → AreStations plan stations → length stations ≤ 16
stations_few plan stations are =
    let a : length (map (λ (s : StationState). carrier_of_peer s.link.who) stations) ≡ length stations =
    length-map stations (λ (s : StationState). carrier_of_peer s.link.who) in
    let b : length (map (λ (n : ℕ). Some n) (carrier_numbers plan)) ≡ length (carrier_numbers plan) =
    length-map (carrier_numbers plan) (λ (n : ℕ). Some n) in
    let e = ap length are in
    let k = numbers_few plan 16 0 in omega arith

-- stations whose numbers were compared with the plan's
pub numbers_given : {S : Type 0} (at : S → StationState) (number : S → Option ℕ) (xs : List S) →
    ((s : S) → number s ≡ carrier_of_peer (at s).link.who) → map number xs ≡ map (λ (t : StationState). carrier_of_peer t.link.who)
    (map at xs)
numbers_given at number [] same = refl
numbers_given at number (x ∷ xs) same = let t = numbers_given at number xs same in let q = same x in cc

pub are_stations_if : {S : Type 0} (at : S → StationState) (number : S → Option ℕ) (xs ys : List S) (plan other : Settings) →
    ((s : S) → number s ≡ carrier_of_peer (at s).link.who) → ys ≡ xs → other ≡ plan
    → map number ys ≡ map (λ (n : ℕ). Some n) (carrier_numbers other) → AreStations plan (map at xs)
are_stations_if at number xs ys plan other same e f reported =
    sym (numbers_given at number xs same) ∙ ap (map number) (sym e) ∙ reported
    ∙ ap (λ (p : Settings). map (λ (n : ℕ). Some n) (carrier_numbers p)) f

pub are_stations_then : {S : Type 0} (at : S → StationState) (number : S → Option ℕ) (xs ys : List S) (plan other : Settings) →
    ((s : S) → number s ≡ carrier_of_peer (at s).link.who) → ys ≡ xs → other ≡ plan
    → AreStations plan (map at xs) → map number ys ≡ map (λ (n : ℕ). Some n) (carrier_numbers other)
are_stations_then at number xs ys plan other same e f are =
    ap (map number) e ∙ numbers_given at number xs same ∙ are ∙ ap (λ (p : Settings). map (λ (n : ℕ). Some n) (carrier_numbers p)) (sym f)

pub few_stations : {S : Type 0} (at : S → StationState) (xs : List S) (plan : Settings) → AreStations plan (map at xs) → length xs ≤ 16
few_stations at xs plan are =
    let few = stations_few plan (map at xs) are in
    let same = length-map xs at in omega arith

-- ---- faults

-- a fault that is found when all workers have ended, with the end to which it applies
pub late_fault : (start : Start) (fault : TermFault) (ended : Option End) → IsLimit start.limit → is_late fault ≡ true →
    IsEndAt start fault ended → IsFaultFor start fault
late_fault start fault None is late at = absurd (false≢true (sym at ∙ late))
late_fault start BadStations (Some end) is late at = absurd at
late_fault start (Open why) (Some end) is late at = absurd at
late_fault start NoThread (Some end) is late at = absurd at
late_fault start (Audit why) (Some end) is late at = (is, end, at)
late_fault start (Early actor) (Some end) is late at = (is, end, at)

-- such a fault comes after threads were started, so nothing is left of the arguments
pub nothing_left : {A : Type 0} (fault : TermFault) (given : A) → is_late fault ≡ true → None ≡ left_at fault given
nothing_left BadStations given late = absurd (false≢true late)
nothing_left (Open fault) given late = absurd (false≢true late)
nothing_left NoThread given late = refl
nothing_left (Audit fault) given late = refl
nothing_left (Early actor) given late = refl

with_stations : (start : Start) (fault : TermFault) → AreStations start.site.plan start.stations → IsFaultFor start fault →
    IsTermFault start fault
with_stations start BadStations are h = absurd h
with_stations start (Open fault) are h = (are, h)
with_stations start NoThread are h = (are, h)
with_stations start (Audit fault) are h = (are, h)
with_stations start (Early actor) are h = (are, h)

pub fault_result : {T E : Type 0} (start : Start) (result : Result T E) (fault : E → TermFault) →
    AreStations start.site.plan start.stations → IfErr result (λ e. IsFaultFor start (fault e)) →
    IfErr result (λ e. IsTermFault start (fault e))
fault_result start (Ok t) fault are h = tt
fault_result start (Err e) fault are h = with_stations start (fault e) are h

pub on_ok : {T E : Type 0} (result : Result T E) (P : Type 0) → P → OnOk result P
on_ok (Ok t) P p = p
on_ok (Err e) P p = tt
