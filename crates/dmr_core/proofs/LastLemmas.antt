-- A radio is registered, and a carrier up, exactly if the last opener or closer is an opener.
use Rattle.std.proofs.Common.{◌≡◌, ◌<◌, ℕ, List, [], ◌∷◌, ◌++◌, Bool, true, false, refl, sym, ◌∙◌, ap, subst, arith, filter, length}
use Rattle.std.proofs.Common.{length-set, inl, inr}
use Rattle.std.specs.Prelude.{fold, Option, Some, None, unwrap_or, if◌then◌else◌, ◌&&◌, not, ◌==◌, slice_set, slice_index_or}
use Rattle.std.specs.List.{list_any}
use Rattle.std.proofs.lemmas.Bool.Decides.{nat_tests}
use Rattle.std.proofs.lemmas.List.{get_or-set_same, get_or-set_other}
use Rattle.std.proofs.lemmas.Bool.{cases_Bool, eqb-false, eqb-true}
use Rattle.dmr_plan.specs.declared.settings.Settings.{Settings}
use Rattle.dmr_core.specs.declared.event.Event.{Event}
use Rattle.dmr_core.specs.declared.event.Event.TheVariants.{Up, Lost}
use Rattle.dmr_core.specs.declared.act.Act.{Act}
use Rattle.dmr_core.specs.declared.act.Act.TheVariants.{Joined, Left}
use Rattle.dmr_core.specs.declared.entry.Entry.{Entry}
use Rattle.dmr_core.specs.Facts.{Facts, facts_after, since, same_as_before, registered_by_act, up_by_event, has_carrier}
use Rattle.dmr_core.specs.Words.{is_registered, is_up}
use Rattle.dmr_core.specs.Last.{or_earlier, last_given, value_after, no_event, no_act, of_registration, of_carrier}
use Rattle.dmr_core.proofs.ListLemmas.{any-push}
use Rattle.dmr_core.proofs.EventsKeepSound.{cleared}
use Rattle.dmr_pdu.proofs.ListLaws.{flipped}

joined_one : (rs : List ℕ) (q r : ℕ)
    → list_any (λ p. p == r) (rs ++ q ∷ []) ≡ unwrap_or (if q == r then Some true else None) (list_any (λ p. p == r) rs)
joined_one rs q r = let pushed = any-push (λ p. p == r) rs q in grind arith

left_one : (rs : List ℕ) (q r : ℕ)
    → list_any (λ p. p == r) (filter (λ p. not (p == q)) rs) ≡ unwrap_or (if q == r then Some false else None) (list_any (λ p. p == r) rs)
left_one [] q r = grind arith
left_one (p ∷ rs) q r = let more = left_one rs q r in grind (arith, nat_tests)

one_act : (rs : List ℕ) (act : Act) (r : ℕ)
    → list_any (λ p. p == r) (registered_by_act rs act) ≡ unwrap_or (of_registration r act) (list_any (λ p. p == r) rs)
one_act rs (Joined q) r = joined_one rs q r
one_act rs (Left q) r = left_one rs q r
one_act rs _ r = refl

pub later_first : {X : Type 0} (a b : Option X) (c : X) → unwrap_or (or_earlier a b) c ≡ unwrap_or a (unwrap_or b c)
later_first None b c = refl
later_first (Some x) b c = refl

all_acts : (acts : List Act) (rs : List ℕ) (r : ℕ)
    → list_any (λ p. p == r) (fold registered_by_act rs acts)
    ≡ unwrap_or (last_given (of_registration r) acts) (list_any (λ p. p == r) rs)
all_acts [] rs r = refl
all_acts (act ∷ acts) rs r =
    all_acts acts (registered_by_act rs act) r
    ∙ ap (λ b. unwrap_or (last_given (of_registration r) acts) b) (one_act rs act r)
    ∙ sym (later_first (last_given (of_registration r) acts) (of_registration r act) (list_any (λ p. p == r) rs))

pub registered_by_last : (plan : Settings) (facts : Facts) (journal : List Entry) (r : ℕ) →
    is_registered (facts_after plan facts journal) r ≡ value_after no_event (of_registration r) (is_registered facts r) journal
registered_by_last plan facts [] r = refl
registered_by_last plan facts (entry ∷ earlier) r =
    all_acts entry.acts.list (facts_after plan facts earlier).registered r
    ∙ ap (λ b. unwrap_or (last_given (of_registration r) entry.acts.list) b) (registered_by_last plan facts earlier r)
    ∙ sym (later_first (last_given (of_registration r) entry.acts.list) None
    (value_after no_event (of_registration r) (is_registered facts r) earlier))

-- carriers
pub same_after : {X : Type 0} (acts : List Act) (x : X) → fold same_as_before x acts ≡ x
same_after [] x = refl
same_after (act ∷ acts) x = same_after acts x

no_word : (acts : List Act) → last_given {X = Bool} no_act acts ≡ None
no_word [] = refl
no_word (act ∷ acts) = rw (no_word acts) refl

set_one : (up : List Bool) (d c : ℕ) (there : Bool) → (d ≡ c → there ≡ true → c < length up)
    → slice_index_or (if there then slice_set up d true else up) c false
    ≡ unwrap_or (if (d == c) && there then Some true else None) (slice_index_or up c false)
set_one up d c true h = elim (cases_Bool (d == c)) [
  | inl e ↦ (let same : d ≡ c = eqb-true d c e in rw e (rw same (get_or-set_same up c true false (h same refl))))
  | inr e ↦ rw e (get_or-set_other up d c true false (eqb-false c d (flipped d c e)))
]
set_one up d c false h = grind arith

clear_one : (up : List Bool) (d c : ℕ)
    → slice_index_or (slice_set up d false) c false ≡ unwrap_or (if d == c then Some false else None) (slice_index_or up c false)
clear_one up d c = elim (cases_Bool (d == c)) [
  | inl e ↦ (let same : d ≡ c = eqb-true d c e in rw e (rw same (cleared up c)))
  | inr e ↦ rw e (get_or-set_other up d c false false (eqb-false c d (flipped d c e)))
]

one_event : (plan : Settings) (up : List Bool) (event : Event) (c : ℕ) → (has_carrier plan c ≡ true → c < length up) →
    slice_index_or (up_by_event plan up event) c false ≡ unwrap_or (of_carrier plan c event) (slice_index_or up c false)
one_event plan up (Up d) c h =
    set_one up d c (has_carrier plan d) (λ same there. h (subst (λ (n : ℕ). has_carrier plan n ≡ true) same there))
one_event plan up (Lost d) c h = clear_one up d c
one_event plan up _ c h = refl

length-cond : (b : Bool) (up : List Bool) (d : ℕ) → length (if b then slice_set up d true else up) ≡ length up
length-cond true up d = length-set up d true
length-cond false up d = refl

length-event : (plan : Settings) (up : List Bool) (event : Event) → length (up_by_event plan up event) ≡ length up
length-event plan up (Up d) = length-cond (has_carrier plan d) up d
length-event plan up (Lost d) = length-set up d false
length-event plan up _ = refl

length-since : (plan : Settings) (up : List Bool) (journal : List Entry) →
    length (since (up_by_event plan) same_as_before up journal) ≡ length up
length-since plan up [] = refl
length-since plan up (entry ∷ earlier) =
    ap (λ (xs : List Bool). length xs)
    (same_after entry.acts.list (up_by_event plan (since (up_by_event plan) same_as_before up earlier) entry.event))
    ∙ length-event plan (since (up_by_event plan) same_as_before up earlier) entry.event
    ∙ length-since plan up earlier

pub up_by_last : (plan : Settings) (facts : Facts) (journal : List Entry) (c : ℕ) → (has_carrier plan c ≡ true → c < length facts.up) →
    is_up (facts_after plan facts journal) c ≡ value_after (of_carrier plan c) no_act (is_up facts c) journal
up_by_last plan facts [] c h = refl
up_by_last plan facts (entry ∷ earlier) c h =
    let before : List Bool = since (up_by_event plan) same_as_before facts.up earlier in
    let within : has_carrier plan c ≡ true → c < length before = λ there. omega (arith, length-since plan facts.up earlier, h there) in
    ap (λ (xs : List Bool). slice_index_or xs c false) (same_after entry.acts.list (up_by_event plan before entry.event))
    ∙ one_event plan before entry.event c within
    ∙ ap (λ b. unwrap_or (of_carrier plan c entry.event) b) (up_by_last plan facts earlier c h)
    ∙ sym (ap (λ (w : Option Bool). unwrap_or (or_earlier w (of_carrier plan c entry.event))
    (value_after (of_carrier plan c) no_act (is_up facts c) earlier)) (no_word entry.acts.list))
