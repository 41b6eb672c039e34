-- The work of all workers is a term.
use Rattle.std.proofs.Common.{◌≡◌, ℕ, zero, suc, ◌+◌, ◌≤◌, ◌<◌, ltb, Bool, true, false, if◌then◌else◌, List, [], ◌∷◌, ◌++◌, Option, Some}
use Rattle.std.proofs.Common.{None, length, map, slice_get, refl, sym, ◌∙◌, ap, subst, arith, length-append}
use Rattle.std.specs.Prelude.{◌≢◌, Contains}
use Rattle.std.proofs.lemmas.Bool.Decides.{nat_tests}
use Rattle.std.proofs.lemmas.List.{length-map}
use Rattle.std.proofs.lemmas.List.Elements.{Contains-append_right}
use Rattle.dmr_link.specs.declared.desk.Deposit.{Deposit}
use Rattle.dmr_desk.specs.declared.ending.Ending.{Ending}
use Rattle.dmr_desk.specs.declared.ending.Ending.TheVariants as ending
use Rattle.dmr_desk.specs.declared.report.Report.{Report}
use Rattle.dmr_desk.specs.declared.fault.CloseFault.{CloseFault}
use Rattle.dmr_desk.specs.declared.fault.CloseFault.TheVariants.{SeatMissing, Differs}
use Rattle.dmr_desk.specs.declared.fault.TermFault.TheVariants.{Audit}
use Rattle.dmr_desk.specs.Audited.{IsAudited, IsKept, IsUnreported}
use Rattle.dmr_desk.specs.BookState.{AreOfActors}
use Rattle.dmr_desk.specs.declared.actors.LinkWork.{LinkWork}
use Rattle.dmr_desk.specs.declared.pace.Pacer.{Ghosts as Pacer}
use Rattle.dmr_desk.specs.declared.station.Serving.{Ghosts as Serving}
use Rattle.dmr_desk.specs.declared.threads.AllWork.{AllWork}
use Rattle.dmr_desk.specs.Crew.{AllDone, AllWorked, start_of}
use Rattle.dmr_desk.specs.Pace.{Paced}
use Rattle.dmr_desk.specs.Refusing.{IsEarly, IsLate, first_over, early_actor}
use Rattle.dmr_desk.specs.Seats.{SeatState, Opened, HasSeat}
use Rattle.dmr_desk.specs.Work.{StationState}
use Rattle.dmr_desk.specs.Term.{HasWorked, HasTicked, Start, End, end_of_term, HasEnded, HasRun, IsTerm}
use Rattle.dmr_desk.proofs.CrewLemmas.{all_done_length}
use Rattle.std.proofs.lemmas.Option.{same_Some}

-- ---- each seat's deposits are the view of its actor

abbrev AllViews : List (List Deposit) → List SeatState → Type 0
AllViews views [] = Unit {0}
AllViews views (x ∷ xs) = (slice_get views x.actor ≡ Some x.deposits) × AllViews views xs

views_all : (views : List (List Deposit)) (xs : List SeatState) →
    ((x : SeatState) → Contains xs x → slice_get views x.actor ≡ Some x.deposits) → AllViews views xs
views_all views [] f = tt
views_all views (x ∷ xs) f =
    let here : Contains (x ∷ xs) x = (0, omega arith, refl) in
    (f x here, views_all views xs (λ y h. f y (Contains-append_right (x ∷ []) xs y h)))

views_end : (views : List (List Deposit)) (xs ys : List SeatState) → AllViews views (xs ++ ys) → AllViews views ys
views_end views [] ys h = h
views_end views (x ∷ xs) ys h = views_end views xs ys h.1

-- ---- lists by place

get_end : {A : Type 0} (xs : List A) (x : A) (rest : List A) → slice_get (xs ++ x ∷ rest) (length xs) ≡ Some x
get_end [] x rest = refl
get_end (y ∷ xs) x rest = get_end xs x rest

get_next : {A : Type 0} (xs : List A) (x y : A) (rest : List A) → slice_get (xs ++ x ∷ y ∷ rest) (length xs + 1) ≡ Some y
get_next [] x y rest = refl
get_next (z ∷ xs) x y rest = let e : suc (length xs) + 1 ≡ suc (length xs + 1) = omega arith in rw e (get_next xs x y rest)

-- ---- each actor's part

worked_as : (s s1 t t1 : StationState) (v v1 : List Deposit) (e e1 : Ending) → s ≡ s1 → t ≡ t1 → v ≡ v1 → e ≡ e1 → HasWorked s t v e →
    HasWorked s1 t1 v1 e1
worked_as s s1 t t1 v v1 e e1 a b c d h =
    let P : StationState → Type 0 = λ x. HasWorked x t v e in
    let Q : StationState → Type 0 = λ x. HasWorked s1 x v e in
    let R : List Deposit → Type 0 = λ x. HasWorked s1 t1 x e in
    let S : Ending → Type 0 = λ x. HasWorked s1 t1 v1 x in
    subst S d (subst R c (subst Q b (subst P a h)))

ticked_as : (before after : Option Paced) (v v1 : List Deposit) (e e1 : Ending) → v ≡ v1 → e ≡ e1 → HasTicked before after v e →
    HasTicked before after v1 e1
ticked_as before after v v1 e e1 c d h =
    let R : List Deposit → Type 0 = λ x. HasTicked before after x e in
    let S : Ending → Type 0 = λ x. HasTicked before after v1 x in
    subst S d (subst R c h)

-- the deposits of a seat of this actor are the actor's view
view_is : (views : List (List Deposit)) (seat : SeatState) (actor : ℕ) (view : List Deposit) →
    slice_get views seat.actor ≡ Some seat.deposits → seat.actor ≡ actor → slice_get views actor ≡ Some view → seat.deposits ≡ view
view_is views seat actor view its own seen = same_Some seat.deposits view (sym its ∙ ap (λ (k : ℕ). slice_get views k) own ∙ seen)

carriers_at : {S L : Type 0} (serving : Serving S) (ss : List S) (ws : List (LinkWork S L)) (rest : List Ending) (others : List SeatState)
    (views : List (List Deposit)) (n k : ℕ) (s t : StationState) (e : Ending) (view : List Deposit) → AllDone serving n ss ws
    → AllViews views (map (λ w. w.seat) ws ++ others) → slice_get (map serving.state ss) k ≡ Some s →
    slice_get (map serving.state (map (λ w. w.station) ws)) k ≡ Some t → slice_get (map (λ w. w.ending) ws ++ rest) k ≡ Some e →
    slice_get views (n + k) ≡ Some view
    → HasWorked s t view e
carriers_at serving [] ws rest others views n k s t e view all vs gs gt ge gv = absurd cc
carriers_at serving (x ∷ ss) [] rest others views n k s t e view all vs gs gt ge gv = absurd all
carriers_at serving (x ∷ ss) (w ∷ ws) rest others views n zero s t e view all vs gs gt ge gv =
    let number : w.seat.actor ≡ n + zero = let z : n ≡ n + 0 = omega arith in all.0.own ∙ z in
    worked_as (serving.state x) s (serving.state w.station) t w.seat.deposits view w.ending e (same_Some (serving.state x) s gs)
    (same_Some (serving.state w.station) t gt) (view_is views w.seat (n + zero) view vs.0 number gv)
    (same_Some w.ending e ge) all.0.worked
carriers_at serving (x ∷ ss) (w ∷ ws) rest others views n (suc k) s t e view all vs gs gt ge gv =
    let m : n + suc k ≡ n + 1 + k = omega arith in
    let P : ℕ → Type 0 = λ i. slice_get views i ≡ Some view in
    carriers_at serving ss ws rest others views (n + 1) k s t e view all.1 vs.1 gs gt ge (subst P m gv)

-- ---- who ended early

no_over : (es : List Ending) (n k : ℕ) → first_over n es ≡ None → slice_get es k ≡ Some ending.TermOver → ⊥
no_over [] n k h g = cc
no_over (ending.TermOver ∷ es) n k h g = cc
no_over (ending.Finished ∷ es) n zero h g = cc
no_over (ending.Finished ∷ es) n (suc k) h g = no_over es (n + 1) k h g
no_over (ending.GateShut ∷ es) n zero h g = cc
no_over (ending.GateShut ∷ es) n (suc k) h g = no_over es (n + 1) k h g

over_at_limit : (b : Bool) (entries limit : ℕ) (es : List Ending) (k : ℕ) → ltb entries limit ≡ b →
    (if b then first_over 0 es else None) ≡ None → slice_get es k ≡ Some ending.TermOver → limit ≤ entries
over_at_limit true entries limit es k e h g = absurd (no_over es 0 k h g)
over_at_limit false entries limit es k e h g = grind (arith, nat_tests)

-- no ending up to this place is TermOver, if the first is not and none of those after it is
none_below : (e : Ending) (es : List Ending) (i : ℕ) → e ≢ ending.TermOver → ((j : ℕ) → j < i → slice_get es j ≢ Some ending.TermOver) →
    (j : ℕ) → j < suc i → slice_get (e ∷ es) j ≢ Some ending.TermOver
none_below e es i first rest zero below g = first (same_Some e ending.TermOver g)
none_below e es i first rest (suc j) below g = rest j (omega arith) g

-- the place of the first that ended so
abbrev FirstAt : ℕ → ℕ → List Ending → Type 0
FirstAt n k es = (i : ℕ) × (k ≡ n + i) × (slice_get es i ≡ Some ending.TermOver) × ((j : ℕ) → j < i → slice_get es j ≢ Some ending.TermOver)

first_after : (n k : ℕ) (e : Ending) (es : List Ending) → e ≢ ending.TermOver → FirstAt (n + 1) k es → FirstAt n k (e ∷ es)
first_after n k e es other r = let same = r.1 in (suc r.0, omega arith, r.2, none_below e es r.0 other r.3)

first_at : (n k : ℕ) (es : List Ending) → first_over n es ≡ Some k → FirstAt n k es
first_at n k [] h = absurd cc
first_at n k (ending.TermOver ∷ es) h = let same : n ≡ k = same_Some n k h in (0, omega arith, refl, λ j below. absurd (omega arith))
first_at n k (ending.Finished ∷ es) h = first_after n k ending.Finished es (λ e. cc) (first_at (n + 1) k es h)
first_at n k (ending.GateShut ∷ es) h = first_after n k ending.GateShut es (λ e. cc) (first_at (n + 1) k es h)

below_limit : (b : Bool) (entries limit : ℕ) (es : List Ending) (k : ℕ) → ltb entries limit ≡ b →
    (if b then first_over 0 es else None) ≡ Some k → (entries < limit) × FirstAt 0 k es
below_limit true entries limit es k e h = (grind (arith, nat_tests), first_at 0 k es h)
below_limit false entries limit es k e h = absurd cc

-- ---- shut gates

-- if a worker ended at a shut gate, its station's gate was shut
pub shut_at : {S L : Type 0} (serving : Serving S) (n : ℕ) (ss : List S) (ws : List (LinkWork S L)) (rest : List Ending) →
    AllDone serving n ss ws → (k : ℕ) (s : S) → slice_get (map (λ w. w.station) ws) k ≡ Some s
    → slice_get (map (λ w. w.ending) ws ++ rest) k ≡ Some ending.GateShut → serving.shut s
shut_at serving n ss [] rest all k s gs ge = absurd cc
shut_at serving n [] (w ∷ ws) rest all k s gs ge = absurd all
shut_at serving n (x ∷ ss) (w ∷ ws) rest all zero s gs ge =
    subst serving.shut (same_Some w.station s gs) (all.0.shut (same_Some w.ending ending.GateShut ge))
shut_at serving n (x ∷ ss) (w ∷ ws) rest all (suc k) s gs ge = shut_at serving (n + 1) ss ws rest all.1 k s gs ge

-- the last ending
pub last_shut : {W : Type 0} (ending_of : W → Ending) (ws : List W) (first last : Ending) (n : ℕ) → length ws ≡ n →
    slice_get (map ending_of ws ++ first ∷ last ∷ []) (n + 1) ≡ Some ending.GateShut → last ≡ ending.GateShut
last_shut ending_of ws first last n count g =
    let m : length (map ending_of ws) ≡ n = length-map ws ending_of ∙ count in
    let P : ℕ → Type 0 = λ k. slice_get (map ending_of ws ++ first ∷ last ∷ []) (k + 1) ≡ Some last in
    let at : slice_get (map ending_of ws ++ first ∷ last ∷ []) (n + 1) ≡ Some last =
    subst P m (get_next (map ending_of ws) first last []) in
    same_Some last ending.GateShut (sym at ∙ g)

-- ---- the whole

-- these are the seats, the endings and the stations of all results
pub record AreOf {S T C L : Type 0} (all : AllWork S T C L) (seats : List SeatState) (ends : List Ending) (stations : List S) : Type 0 where
  pub seats_are : seats ≡ map (λ w. w.seat) all.carriers.items ++ all.ticker.seat ∷ all.console.seat ∷ []
  pub ends_are : ends ≡ map (λ w. w.ending) all.carriers.items ++ all.ticker.ending ∷ all.console.ending ∷ []
  pub stations_are : stations ≡ map (λ w. w.station) all.carriers.items

pub has_ended : {S T C L : Type 0} (serving : Serving S) (pacing : Pacer T) (its : Serving C) (desk : Opened) (ss : List S) (pacer : T)
    (console : C) (all : AllWork S T C L) (seats : List SeatState) (report : Report) (ends : List Ending) (stations : List S)
    → IsKept desk seats report → AreOf all seats ends stations → AllWorked serving pacing its ss pacer console all
    → HasEnded (start_of serving pacing its desk ss pacer console)
    (end_of_term report ends (map serving.state stations) (pacing.paced all.ticker.pacer) (its.state all.console.station))
has_ended {S = S} serving pacing its desk ss pacer console all seats report ends stations is are worked =
    let views : List (List Deposit) = report.views.items in
    let ws = all.carriers.items in
    let ts = all.ticker.seat in
    let d = all.console in
    let before = map serving.state ss in
    let m : length before ≡ length ss = length-map ss serving.state in
    let n : length ws ≡ length before = all_done_length serving 0 ss ws worked.carriers ∙ sym m in
    let ne : length (map (λ w. w.ending) ws) ≡ length before = length-map ws (λ w. w.ending) ∙ n in
    let nt : length (map serving.state (map (λ w. w.station) ws)) ≡ length before =
    length-map (map (λ w. w.station) ws) serving.state ∙ length-map ws (λ w. w.station) ∙ n in
    let ns : length (map (λ w. w.seat) ws) ≡ length before = length-map ws (λ w. w.seat) ∙ n in
    let V : List SeatState → Type 0 = AllViews views in
    let vs : AllViews views (map (λ w. w.seat) ws ++ ts ∷ d.seat ∷ []) = subst V are.seats_are (views_all views seats is.gathered.each) in
    let last : AllViews views (ts ∷ d.seat ∷ []) = views_end views (map (λ w. w.seat) ws) (ts ∷ d.seat ∷ []) vs in
    record {
      legal = is.journal.kept.legal;
      safe = is.safe;
      within = is.journal.kept.within;
      site = is.site;
      actors = is.gathered.as_many ∙ ap length are.seats_are ∙ length-append (map (λ w. w.seat) ws) (ts ∷ d.seat ∷ [])
          ∙ ap (λ (k : ℕ). k + 2) ns;
      counted = is.journal.counted ∙ sym is.counted;
      nobody = let K : ℕ → Type 0 = λ n. AreOfActors n report.journal in subst K (sym is.actors) is.journal.known;
      handed_back = ap (λ xs. length (map serving.state xs)) are.stations_are ∙ nt;
      carriers = λ k a b e view ga gb ge gv.
          let Q : List S → Type 0 = λ xs. slice_get (map serving.state xs) k ≡ Some b in
          let R : List Ending → Type 0 = λ xs. slice_get xs k ≡ Some e in
          let z : k ≡ 0 + k = omega arith in
          let P : ℕ → Type 0 = λ i. slice_get views i ≡ Some view in
          carriers_at serving ss ws (all.ticker.ending ∷ d.ending ∷ []) (ts ∷ d.seat ∷ []) views 0 k a b e view worked.carriers vs ga
          (subst Q are.stations_are gb) (subst R are.ends_are ge) (subst P z gv);
      ticker = λ e view g gv.
          let got : slice_get ends (length before) ≡ Some all.ticker.ending =
          rw (are.ends_are, ← ne) (get_end (map (λ w. w.ending) ws) all.ticker.ending (d.ending ∷ [])) in
          ticked_as (pacing.paced pacer) (pacing.paced all.ticker.pacer) ts.deposits view all.ticker.ending e
          (view_is views ts (length before) view last.0 (worked.ticker.own ∙ sym m) gv)
          (same_Some all.ticker.ending e (sym got ∙ g)) worked.ticker.ticked;
      console = λ e view g gv.
          let got : slice_get ends (length before + 1) ≡ Some d.ending =
          rw (are.ends_are, ← ne) (get_next (map (λ w. w.ending) ws) all.ticker.ending d.ending []) in
          worked_as (its.state console) (its.state console) (its.state d.station)
          (its.state d.station) d.seat.deposits view d.ending e refl refl
          (view_is views d.seat (length before + 1) view last.1.0 (worked.last.own ∙ ap (λ (k : ℕ). k + 1) (sym m)) gv)
          (same_Some d.ending e (sym got ∙ g)) worked.last.worked;
      all_ended =
          ap length are.ends_are ∙ length-append (map (λ w. w.ending) ws) (all.ticker.ending ∷ d.ending ∷ []) ∙ ap (λ (k : ℕ). k + 2) ne;
    }

pub has_run : {S T C L : Type 0} (serving : Serving S) (pacing : Pacer T) (its : Serving C) (desk : Opened) (ss : List S) (pacer : T)
    (console : C) (all : AllWork S T C L) (seats : List SeatState) (report : Report) (ends : List Ending) (stations : List S)
    → IsAudited desk seats report → AreOf all seats ends stations → AllWorked serving pacing its ss pacer console all
    → HasRun (start_of serving pacing its desk ss pacer console)
    (end_of_term report ends (map serving.state stations) (pacing.paced all.ticker.pacer) (its.state all.console.station))
has_run serving pacing its desk ss pacer console all seats report ends stations is are worked =
    record { ended = has_ended serving pacing its desk ss pacer console all seats report ends stations is.kept are worked; views = is.same }

-- if no worker ended early, it is a term
pub is_term : (start : Start) (end : End) → HasRun start end → early_actor (length end.journal) start.limit end.ends ≡ None →
    IsTerm start end
is_term start end run early = record {
  run = run;
  over = λ k g. let h : start.limit ≤ length end.journal = over_at_limit (ltb (length end.journal) start.limit)
      (length end.journal) start.limit end.ends k refl early g in let w = run.ended.within in omega arith;
}

pub is_early : (start : Start) (end : End) (actor : ℕ) → HasRun start end →
    early_actor (length end.journal) start.limit end.ends ≡ Some actor → IsEarly start end actor
is_early start end actor run early =
    let both = below_limit (ltb (length end.journal) start.limit) (length end.journal) start.limit end.ends actor refl early in
    let first = both.1 in
    let same : first.0 ≡ actor = let e = first.1 in omega arith in
    let P : ℕ → Type 0 = λ k. slice_get end.ends k ≡ Some ending.TermOver in
    let Q : ℕ → Type 0 = λ k. (j : ℕ) → j < k → slice_get end.ends j ≢ Some ending.TermOver in
    record { run = run; below = both.0; reported = subst P same first.2; least = subst Q same first.3 }

-- ---- the seats

abbrev AreFrom : ℕ → List SeatState → Type 0
AreFrom n [] = Unit {0}
AreFrom n (x ∷ xs) = (x.actor ≡ n) × AreFrom (n + 1) xs

from_all : {S L : Type 0} (serving : Serving S) (n : ℕ) (ss : List S) (ws : List (LinkWork S L)) (x y : SeatState) →
    AllDone serving n ss ws → x.actor ≡ n + length ss → y.actor ≡ n + length ss + 1 → AreFrom n (map (λ w. w.seat) ws ++ x ∷ y ∷ [])
from_all serving n [] [] x y all ex ey = (omega arith, (omega arith, tt))
from_all serving n (s ∷ ss) (w ∷ ws) x y all ex ey = (all.0.own, from_all serving (n + 1) ss ws x y all.1 (omega arith) (omega arith))
from_all serving n [] (w ∷ ws) x y all ex ey = absurd all
from_all serving n (s ∷ ss) [] x y all ex ey = absurd all

seat_after : (x : SeatState) (xs : List SeatState) (actor : ℕ) → HasSeat xs actor → HasSeat (x ∷ xs) actor
seat_after x xs actor h = (h.0, Contains-append_right (x ∷ []) xs h.0 h.1, h.2)

has_seat : (n i : ℕ) (xs : List SeatState) → AreFrom n xs → i < length xs → HasSeat xs (n + i)
has_seat n i [] of low = absurd (omega arith)
has_seat n zero (x ∷ xs) of low = let z : n ≡ n + 0 = omega arith in (x, (0, omega arith, refl), of.0 ∙ z)
has_seat n (suc i) (x ∷ xs) of low =
    let m : n + 1 + i ≡ n + suc i = omega arith in
    let P : ℕ → Type 0 = HasSeat (x ∷ xs) in subst P m (seat_after x xs (n + 1 + i) (has_seat (n + 1) i xs of.1 (omega arith)))

-- no seat is missing
none_missing : {S T C L : Type 0} (serving : Serving S) (pacing : Pacer T) (its : Serving C) (ss : List S) (pacer : T) (console : C)
    (all : AllWork S T C L) (seats : List SeatState) → seats ≡ map (λ w. w.seat)
    all.carriers.items ++ all.ticker.seat ∷ all.console.seat ∷ []
    → AllWorked serving pacing its ss pacer console all → (actor : ℕ) → actor < length all.carriers.items + 2 → HasSeat seats actor
none_missing serving pacing its ss pacer console all seats es worked actor below =
    let ws = all.carriers.items in
    let ts = all.ticker.seat in
    let last = all.console.seat in
    let all_of : AreFrom 0 (map (λ w. w.seat) ws ++ ts ∷ last ∷ []) = from_all serving 0 ss ws ts last worked.carriers
    (let e = worked.ticker.own in omega arith) (let e = worked.last.own in omega arith) in
    let A : List SeatState → Type 0 = AreFrom 0 in
    let many : length seats ≡ length ws + 2 =
    ap length es ∙ length-append (map (λ w. w.seat) ws) (ts ∷ last ∷ []) ∙ ap (λ (k : ℕ). k + 2) (length-map ws (λ w. w.seat)) in
    let z : 0 + actor ≡ actor = omega arith in
    let P : ℕ → Type 0 = HasSeat seats in subst P z (has_seat 0 actor seats (subst A (sym es) all_of) (omega arith))

pub none_is_missing : {S T C L : Type 0} (serving : Serving S) (pacing : Pacer T) (its : Serving C) (desk : Opened) (ss : List S)
    (pacer : T) (console : C) (all : AllWork S T C L) (seats : List SeatState) (fault : CloseFault)
    → desk.actors ≡ length all.carriers.items + 2 → IsUnreported desk seats fault None →
    seats ≡ map (λ w. w.seat) all.carriers.items ++ all.ticker.seat ∷ all.console.seat ∷ [] →
    AllWorked serving pacing its ss pacer console all → ⊥
none_is_missing serving pacing its desk ss pacer console all seats (SeatMissing actor) actors why es worked =
    why.1 (none_missing serving pacing its ss pacer console all seats es worked actor (let below = why.0 in omega arith))
none_is_missing serving pacing its desk ss pacer console all seats (Differs actor) actors why es worked = why

-- what a desk kept that has no report is a term of which a view differs
pub is_unaudited : {S T C L : Type 0} (serving : Serving S) (pacing : Pacer T) (its : Serving C) (desk : Opened) (ss : List S) (pacer : T)
    (console : C) (all : AllWork S T C L) (seats : List SeatState) (fault : CloseFault) (report : Report) (ends : List Ending)
    (stations : List S)
    → IsUnreported desk seats fault (Some report) → AreOf all seats ends stations → AllWorked serving pacing its ss pacer console all
    → IsLate (start_of serving pacing its desk ss pacer console) (Audit fault)
    (end_of_term report ends (map serving.state stations) (pacing.paced all.ticker.pacer) (its.state all.console.station))
is_unaudited serving pacing its desk ss pacer console all seats (Differs actor) report ends stations why are worked =
    record { ended = has_ended serving pacing its desk ss pacer console all seats report ends stations why.0 are worked; differs = why.1 }
is_unaudited serving pacing its desk ss pacer console all seats (SeatMissing actor) report ends stations why are worked = absurd why
