-- A journal's list for an actor, entry by entry.
use Rattle.std.proofs.Common.{◌≡◌, ◌≢◌, ℕ, ◌+◌, ◌-◌, ◌<◌, ◌≤◌, Bool, true, false, not, eqb, cond, List, [], ◌∷◌, length, drop, map, Option}
use Rattle.std.proofs.Common.{Some, None, inl, inr, refl, sym, ap, ◌∙◌, subst, arith, slice_index_or, slice_set, replicate}
use Rattle.std.specs.Prelude.{filter, slice_get, ◌==◌}
use Rattle.std.specs.Option.{option_eq}
use Rattle.std.proofs.lemmas.Bool.{eq-eqb, ne_eqb, eqb-true, cases_eq, cases_lt}
use Rattle.std.proofs.lemmas.List.{drop_all, drop_more, length-drop, length-set, get_or-set_same, get_or-set_other, get_or-replicate}
use Rattle.std.proofs.lemmas.Option.{none-some, same_Some, slice_get-get_or, slice_get_within, get_or_from_slice_get}
use Rattle.dmr_core.specs.declared.entry.Entry.{Entry}
use Rattle.dmr_link.specs.declared.desk.Deposit.{Deposit}
use Rattle.dmr_desk.specs.Views.{deposit_in, view_of, IsRest, Follows}
use Rattle.dmr_desk.specs.Audited.{AllFollow, HasActors, IsDiffering, IsFirstDiffering, SameBelow, SameBetween}
use Rattle.dmr_desk.proofs.SeatLemmas.{at_place}

pub view_here : (actor : ℕ) (e : Entry) (es : List Entry) → e.actor ≡ actor → view_of actor (e ∷ es) ≡ deposit_in e ∷ view_of actor es
view_here actor e es same = ap (λ (b : Bool). map deposit_in
    (cond b (e ∷ filter (λ (x : Entry). x.actor == actor) es) (filter (λ (x : Entry). x.actor == actor) es))) (eq-eqb e.actor actor same)

pub view_other : (actor : ℕ) (e : Entry) (es : List Entry) → e.actor ≢ actor → view_of actor (e ∷ es) ≡ view_of actor es
view_other actor e es other = ap
    (λ (b : Bool). map deposit_in (cond b (e ∷ filter (λ (x : Entry). x.actor == actor) es) (filter (λ (x : Entry). x.actor == actor) es)))
    (ne_eqb e.actor actor other)

-- the first of the entries from the i-th on
from_here : (journal : List Entry) (i : ℕ) (e : Entry) → i < length journal → e ≡ slice_index_or journal i e →
    drop i journal ≡ e ∷ drop (i + 1) journal
from_here journal i e within is = drop_more journal i e within ∙ ap (λ (x : Entry). x ∷ drop (i + 1) journal) (sym is)

here : (deposits : List Deposit) (n : ℕ) (d : Deposit) → n < length deposits → d ≡ slice_index_or deposits n d →
    drop n deposits ≡ d ∷ drop (n + 1) deposits
here deposits n d within is = drop_more deposits n d within ∙ ap (λ (x : Deposit). x ∷ drop (n + 1) deposits) (sym is)

-- the entry is another actor's
pub skipped : (deposits : List Deposit) (actor : ℕ) (journal : List Entry) (n i : ℕ) (e : Entry) → IsRest deposits actor journal n i →
    i < length journal → e ≡ slice_index_or journal i e → e.actor ≢ actor → IsRest deposits actor journal n (i + 1)
skipped deposits actor journal n i e rest within is other =
    let step : view_of actor (drop i journal) ≡ view_of actor (drop (i + 1) journal) =
    ap (view_of actor) (from_here journal i e within is) ∙ view_other actor e (drop (i + 1) journal) other in
    record { down = λ same. rest.down same ∙ step; up = λ same. rest.up (same ∙ sym step) }

-- the entries from the i-th on, if the i-th is the actor's
its_own : (actor : ℕ) (journal : List Entry) (i : ℕ) (e : Entry) → i < length journal → e ≡ slice_index_or journal i e → e.actor ≡ actor →
    view_of actor (drop i journal) ≡ deposit_in e ∷ view_of actor (drop (i + 1) journal)
its_own actor journal i e within is own =
    ap (view_of actor) (from_here journal i e within is) ∙ view_here actor e (drop (i + 1) journal) own

-- the entry is the actor's, and the next deposit equals it
pub taken : (deposits : List Deposit) (actor : ℕ) (journal : List Entry) (n i : ℕ) (e : Entry) (d : Deposit) →
    IsRest deposits actor journal n i → i < length journal → e ≡ slice_index_or journal i e → e.actor ≡ actor → n < length deposits →
    d ≡ slice_index_or deposits n d → d ≡ deposit_in e → IsRest deposits actor journal (n + 1) (i + 1)
taken deposits actor journal n i e d rest within is own here_within here_is same =
    let left = here deposits n d here_within here_is in
    let right = its_own actor journal i e within is own in
    record {
      down = λ all. let both : d ∷ drop (n + 1) deposits ≡ deposit_in e ∷ view_of actor (drop (i + 1) journal) =
          sym left ∙ rest.down all ∙ right in ap (drop 1) both;
      up = λ more. rest.up (left ∙ (ap (λ (x : Deposit). x ∷ drop (n + 1) deposits) same
          ∙ ap (λ (xs : List Deposit). deposit_in e ∷ xs) more) ∙ sym right);
    }

-- the entry is the actor's, and there is no further deposit
pub too_few : (deposits : List Deposit) (actor : ℕ) (journal : List Entry) (n i : ℕ) (e : Entry) → IsRest deposits actor journal n i →
    i < length journal → e ≡ slice_index_or journal i e → e.actor ≡ actor → length deposits ≤ n → deposits ≢ view_of actor journal
too_few deposits actor journal n i e rest within is own none all =
    let both : [] ≡ deposit_in e ∷ view_of actor (drop (i + 1) journal) =
    sym (drop_all n deposits none) ∙ rest.down all ∙ its_own actor journal i e within is own in cc

-- the entry is the actor's, and the next deposit differs
pub differing : (deposits : List Deposit) (actor : ℕ) (journal : List Entry) (n i : ℕ) (e : Entry) (d : Deposit) →
    IsRest deposits actor journal n i → i < length journal → e ≡ slice_index_or journal i e → e.actor ≡ actor → n < length deposits →
    d ≡ slice_index_or deposits n d → d ≢ deposit_in e → deposits ≢ view_of actor journal
differing deposits actor journal n i e d rest within is own here_within here_is other all =
    let both : d ∷ drop (n + 1) deposits ≡ deposit_in e ∷ view_of actor (drop (i + 1) journal) =
    sym (here deposits n d here_within here_is) ∙ rest.down all ∙ its_own actor journal i e within is own in
    let same : d ≡ deposit_in e = cc in other same

-- no entry is left
pub at_end : (deposits : List Deposit) (actor : ℕ) (journal : List Entry) (n i : ℕ) → IsRest deposits actor journal n i →
    n ≤ length deposits → length journal ≤ i → ((n == length deposits) ≡ true → deposits ≡ view_of actor journal) ×
    (deposits ≡ view_of actor journal → (n == length deposits) ≡ true)
at_end deposits actor journal n i rest few end =
    let none : view_of actor (drop i journal) ≡ [] = ap (view_of actor) (drop_all i journal end) in (
      λ reported. rest.up (drop_all n deposits (let e = eqb-true n (length deposits) reported in omega arith) ∙ sym none),
      λ all. let e : length deposits - n ≡ 0 =
          sym (length-drop n deposits) ∙ ap length (rest.down all ∙ none) in eq-eqb n (length deposits) (omega arith),
    )

-- no entry has been compared
pub begins : (deposits : List Deposit) (actor : ℕ) (journal : List Entry) → Follows deposits actor journal 0 (Some 0)
begins deposits actor journal = (omega arith, record { down = λ all. all; up = λ all. all })

-- the entry is another actor's
pub passes : (deposits : List Deposit) (actor : ℕ) (journal : List Entry) (place : ℕ) (turn : Option ℕ) (e : Entry) →
    Follows deposits actor journal place turn → place < length journal → e ≡ slice_index_or journal place e → e.actor ≢ actor →
    Follows deposits actor journal (place + 1) turn
passes deposits actor journal place None e differs within is other = differs
passes deposits actor journal place (Some n) e follows within is other =
    (follows.0, skipped deposits actor journal n place e follows.1 within is other)

-- all entries have been compared: the view is the journal's list exactly if all its deposits were confirmed
pub ends_so : (deposits : List Deposit) (actor : ℕ) (journal : List Entry) (turn : Option ℕ) →
    Follows deposits actor journal (length journal) turn → turn ≡ Some (length deposits) → deposits ≡ view_of actor journal
ends_so deposits actor journal None follows same = absurd (none-some (length deposits) same)
ends_so deposits actor journal (Some n) follows same =
    let n_is : n ≡ length deposits = same_Some n (length deposits) same in
    (at_end deposits actor journal n (length journal) follows.1 follows.0 (omega arith)).0 (eq-eqb n (length deposits) n_is)

pub ends_otherwise : (deposits : List Deposit) (actor : ℕ) (journal : List Entry) (turn : Option ℕ) →
    Follows deposits actor journal (length journal) turn → turn ≢ Some (length deposits) → deposits ≢ view_of actor journal
ends_otherwise deposits actor journal None follows other all = follows all
ends_otherwise deposits actor journal (Some n) follows other all =
    let same = (at_end deposits actor journal n (length journal) follows.1 follows.0 (omega arith)).1 all in
    other (ap (λ (k : ℕ). Some k) (eqb-true n (length deposits) same))

-- ---- all actors

at_written : {X : Type 0} (xs : List X) (k : ℕ) (x : X) → k < length xs → slice_get (slice_set xs k x) k ≡ Some x
at_written {X} xs k x within = slice_get-get_or (slice_set xs k x) k x (let e = length-set xs k x in omega arith)
    ∙ ap (λ (y : X). Some y) (get_or-set_same xs k x x within)

at_another : {X : Type 0} (xs : List X) (k j : ℕ) (x y : X) → j ≢ k → slice_get xs j ≡ Some y → slice_get (slice_set xs k x) j ≡ Some y
at_another {X} xs k j x y other has =
    let within = slice_get_within xs j y has in
    slice_get-get_or (slice_set xs k x) j y (let e = length-set xs k x in omega arith)
    ∙ ap (λ (z : X). Some z) (get_or-set_other xs k j x y other ∙ get_or_from_slice_get xs j y y has)

-- the actor of one more entry is written down
pub actors_more : (start place : ℕ) (journal : List Entry) (actors : List ℕ) (e : Entry) (actor : ℕ) → start ≤ place →
    place - start < length actors → slice_get journal place ≡ Some e → actor ≡ e.actor → HasActors start place journal actors →
    HasActors start (place + 1) journal (slice_set actors (place - start) actor)
actors_more start place journal actors e actor order within here is before at e' low below has =
    elim (cases_eq at place) [
      | inl same ↦
          let own : e ≡ e' = same_Some e e' (sym here ∙ ap (λ (n : ℕ). slice_get journal n) (sym same) ∙ has) in
          ap (λ (n : ℕ). slice_get (slice_set actors (place - start) actor) (n - start)) same
          ∙ at_written actors (place - start) actor within ∙ ap (λ (n : ℕ). Some n) (is ∙ ap (λ (x : Entry). x.actor) own)
      | inr other ↦
          at_another actors (place - start) (at - start) actor e'.actor (λ equal. other (omega arith)) (before at e' low (omega arith) has)
    ]

-- no entry has been compared
pub all_begin : (from to : ℕ) (views : List (List Deposit)) (journal : List Entry) → to ≤ 18 →
    AllFollow from to views journal 0 (replicate 18 (Some 0))
all_begin from to views journal few actor view low high has =
    let long : length (replicate {A = Option ℕ} 18 (Some 0)) ≡ 18 = refl in (
      Some 0,
      slice_get-get_or (replicate 18 (Some 0)) actor None (omega arith)
          ∙ ap (λ (t : Option ℕ). Some t) (get_or-replicate 18 actor (Some 0) None (omega arith)),
      begins view actor journal,
    )

-- an entry was compared with the view of its actor, which is k
pub all_follow_one : (from to : ℕ) (views : List (List Deposit)) (journal : List Entry) (place : ℕ) (turns : List (Option ℕ)) (e : Entry)
    (k : ℕ) (view : List Deposit) (d turn : Option ℕ) → from ≤ k → k < to → AllFollow from to views journal place turns →
    place < length journal → e ≡ slice_index_or journal place e → k ≡ e.actor → slice_get views k ≡ Some view →
    (Follows view e.actor journal place (slice_index_or turns k d) → Follows view e.actor journal (place + 1) turn) →
    AllFollow from to views journal (place + 1) (slice_set turns k turn)
all_follow_one from to views journal place turns e k view d turn low_k high_k all within is of here step actor view' low high has =
    elim (cases_eq actor k) [
      | inl same ↦
          let found = all k view low_k high_k here in
          let read : slice_index_or turns k d ≡ found.0 = get_or_from_slice_get turns k found.0 d found.1 in
          let at_k : Follows view k journal place (slice_index_or turns k d) =
          subst (λ (t : Option ℕ). Follows view k journal place t) (sym read) found.2 in
          let before : Follows view e.actor journal place (slice_index_or turns k d) =
          subst (λ (n : ℕ). Follows view n journal place (slice_index_or turns k d)) of at_k in
          let own : view ≡ view' = same_Some view view' (sym here ∙ ap (λ (n : ℕ). slice_get views n) (sym same) ∙ has) in
          let after : Follows view' e.actor journal (place + 1) turn =
          subst (λ (v : List Deposit). Follows v e.actor journal (place + 1) turn) own (step before) in (
            turn,
            ap (λ (n : ℕ). slice_get (slice_set turns k turn) n) same ∙ at_written turns k turn (slice_get_within turns k found.0 found.1),
            subst (λ (n : ℕ). Follows view' n journal (place + 1) turn) (sym (same ∙ of)) after,
          )
      | inr other ↦
          let found = all actor view' low high has in (
            found.0,
            at_another turns k actor turn found.0 other found.1,
            passes view' actor journal place found.0 e found.2 within is (λ own. other (sym own ∙ sym of)),
          )
    ]

-- the entry's actor is not among them
pub all_pass : (from to : ℕ) (views : List (List Deposit)) (journal : List Entry) (place : ℕ) (turns : List (Option ℕ)) (e : Entry) →
    AllFollow from to views journal place turns → place < length journal → e ≡ slice_index_or journal place e →
    ¬ ((from ≤ e.actor) × (e.actor < to)) → AllFollow from to views journal (place + 1) turns
all_pass from to views journal place turns e all within is none actor view low high has =
    let found = all actor view low high has in (
      found.0,
      found.1,
      passes view actor journal place found.0 e found.2 within is
          (λ own. none (omega (arith, own, low), omega (arith, own, high))),
    )

-- the view that is read at a place
pub view_at : (views read : List (List Deposit)) (k : ℕ) (view deposits : List Deposit) → read ≡ views → k < length views →
    view ≡ slice_index_or read k view → deposits ≡ view → slice_get views k ≡ Some deposits
view_at views read k view deposits same within is seen =
    at_place views k view within (is ∙ ap (λ (vs : List (List Deposit)). slice_index_or vs k view) same)
    ∙ ap (λ (v : List Deposit). Some v) (sym seen)

-- the comparison with the number of a view's deposits
positive : (b : Bool) → false ≡ not b → b ≡ true
positive true e = refl
positive false e = e

turn_is : (turn : Option ℕ) (n : ℕ) → false ≡ not (option_eq eqb turn (Some n)) → turn ≡ Some n
turn_is None n e = absurd (let no : false ≡ true = e in cc)
turn_is (Some k) n e = ap (λ (x : ℕ). Some x) (eqb-true k n (positive (eqb k n) e))

turn_differs : (turn : Option ℕ) (n : ℕ) → true ≡ not (option_eq eqb turn (Some n)) → turn ≢ Some n
turn_differs turn n e is =
    let same : not (option_eq eqb turn (Some n)) ≡ false =
    ap (λ (t : Option ℕ). not (option_eq eqb t (Some n))) is ∙ ap not (eq-eqb n n refl) in
    let no : true ≡ false = e ∙ same in cc

-- all entries have been compared
pub same_at : (from to : ℕ) (views : List (List Deposit)) (journal : List Entry) (turns : List (Option ℕ)) (actor : ℕ) (view : List Deposit)
    (d : Option ℕ) → from ≤ actor → actor < to → AllFollow from to views journal (length journal) turns →
    slice_get views actor ≡ Some view → false ≡ not (option_eq eqb (slice_index_or turns actor d) (Some (length view))) →
    slice_get views actor ≡ Some (view_of actor journal)
same_at from to views journal turns actor view d low high all here equal =
    let found = all actor view low high here in
    let read = get_or_from_slice_get turns actor found.0 d found.1 in
    here ∙ ap (λ (v : List Deposit). Some v)
    (ends_so view actor journal found.0 found.2 (sym read ∙ turn_is (slice_index_or turns actor d) (length view) equal))

pub differs_at : (from to : ℕ) (views : List (List Deposit)) (journal : List Entry) (turns : List (Option ℕ)) (actor : ℕ)
    (view : List Deposit) (d : Option ℕ) → from ≤ actor → actor < to → AllFollow from to views journal (length journal) turns →
    slice_get views actor ≡ Some view → true ≡ not (option_eq eqb (slice_index_or turns actor d) (Some (length view))) →
    slice_get views actor ≢ Some (view_of actor journal)
differs_at from to views journal turns actor view d low high all here unequal same =
    let found = all actor view low high here in
    let read = get_or_from_slice_get turns actor found.0 d found.1 in
    ends_otherwise view actor journal found.0 found.2 (λ is. turn_differs (slice_index_or turns actor d) (length view) unequal (read ∙ is))
    (same_Some view (view_of actor journal) (sym here ∙ same))

-- ---- halves

-- the least that differs among the first is the least among all
pub among_first : (from middle to : ℕ) (views : List (List Deposit)) (journal : List Entry) (actor : ℕ) → middle ≤ to →
    IsFirstDiffering from middle views journal (Some actor) → IsFirstDiffering from to views journal (Some actor)
among_first from middle to views journal actor within is = (is.0, omega (arith, is.1), is.2, is.3)

same_on : (from middle to : ℕ) (views : List (List Deposit)) (journal : List Entry) → SameBetween from middle views journal →
    SameBetween middle to views journal → SameBetween from to views journal
same_on from middle to views journal first second actor low high =
    elim (cases_lt actor middle) [
      | inl before ↦ first actor low before
      | inr after ↦ second actor (omega (arith, after)) high
    ]

-- if none of the first differs, it is the least among the others
pub among_second : (from middle to : ℕ) (views : List (List Deposit)) (journal : List Entry) (second : Option ℕ) → from ≤ middle →
    IsFirstDiffering from middle views journal None → IsFirstDiffering middle to views journal second →
    IsFirstDiffering from to views journal second
among_second from middle to views journal None order first second = same_on from middle to views journal first second
among_second from middle to views journal (Some actor) order first second =
    (omega (arith, second.0), second.1, second.2, same_on from middle actor views journal first second.3)

-- all actors
pub least_of_all : (views : List (List Deposit)) (journal : List Entry) (actor : ℕ) →
    IsFirstDiffering 0 (length views) views journal (Some actor) → IsDiffering views journal actor
least_of_all views journal actor is = (is.1, is.2, λ other below. is.3 other (omega arith) below)

pub same_for_all : (views : List (List Deposit)) (journal : List Entry) → IsFirstDiffering 0 (length views) views journal None →
    SameBelow (length views) views journal
same_for_all views journal same actor below = same actor (omega arith) below
