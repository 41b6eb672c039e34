-- The noise numbers count the Noises of the definition.
use Rattle.std.proofs.Common.{◌≡◌, ◌≤◌, ◌+◌, ◌-◌, ℕ, zero, suc, List, [], ◌∷◌, Bool, true, false, refl, sym, ◌∙◌, ap, arith, length, take}
use Rattle.std.proofs.Common.{min, sum, inl, inr}
use Rattle.std.specs.Prelude.{fold, replicate, if◌then◌else◌, ◌==◌, slice_set, slice_index_or}
use Rattle.std.proofs.lemmas.Bool.Decides.{nat_tests}
use Rattle.std.proofs.lemmas.List.{get_or-set_other, take-take, take_all}
use Rattle.std.proofs.lemmas.Bool.{cases_Bool, eqb-false, eqb-true}
use Rattle.dmr_plan.specs.declared.settings.Settings.{Settings}
use Rattle.dmr_plan.specs.IsPlan.{IsPlan}
use Rattle.dmr_access.specs.Noise.{noise_at_up, with_noise, with_poll, backoff_of}
use Rattle.dmr_pool.specs.Free.{is_control}
use Rattle.dmr_core.specs.declared.event.Event.{Event}
use Rattle.dmr_core.specs.declared.event.Event.TheVariants.{Up, Lost, Noise, Poll}
use Rattle.dmr_core.specs.declared.entry.Entry.{Entry}
use Rattle.dmr_core.specs.Facts.{Facts, facts_after, up_by_event, noise_by_event, has_carrier}
use Rattle.dmr_core.specs.Words.{is_up}
use Rattle.dmr_core.specs.Journal.{IsLegal}
use Rattle.dmr_core.specs.Sound.{IsSound}
use Rattle.dmr_core.specs.Backoff.{noises_with_event, noises_within, recent_noises}
use Rattle.dmr_core.proofs.ListLemmas.{true_false}
use Rattle.dmr_core.proofs.EventsKeepSound.{cleared}
use Rattle.dmr_core.proofs.PlansAreKnown.{plan_known}
use Rattle.dmr_core.proofs.LastLemmas.{same_after}
use Rattle.dmr_core.proofs.ActsAreSafe.{sound_after}
use Rattle.dmr_pdu.proofs.ListLaws.{flipped}

no_sum : (m n : ℕ) → sum (take n (replicate m 0)) ≡ 0
no_sum zero zero = refl
no_sum zero (suc n) = refl
no_sum (suc m) zero = refl
no_sum (suc m) (suc n) = no_sum m n

no_noise_at_up : (n : ℕ) → sum (take n noise_at_up) ≡ 0
unfolding noise_at_up
no_noise_at_up n = no_sum 32 n

sum_from : (n : ℕ) (xs : List ℕ) → fold ◌+◌ n xs ≡ n + sum xs
sum_from n [] = omega arith
sum_from n (x ∷ xs) = omega (arith, sum_from (n + x) xs, sum_from (0 + x) xs)

first_taken : (n k : ℕ) (ns : List ℕ) → sum (take (k + 1) (n ∷ ns)) ≡ n + sum (take k ns)
first_taken n k ns = let e : k + 1 ≡ suc k = omega arith in rw e (omega (arith, sum_from (0 + n) (take k ns)))

-- one Noise more
noise_more : (ns : List ℕ) (k c : ℕ) → length ns ≡ 32 → min 15 (sum (take (k + 1) ns)) ≡ min 15 c →
    min 15 (sum (take (k + 1) (with_noise ns))) ≡ min 15 (1 + c)
noise_more [] k c long h = absurd (omega arith)
noise_more (n ∷ ns) k c long h = omega (arith, h, first_taken n k ns, first_taken (min 15 (n + 1)) k ns)

not_zero : (k : ℕ) → (suc k == 0) ≡ false
not_zero k = grind (arith, nat_tests)

-- one Poll more
poll_more : (ns : List ℕ) (k : ℕ) (c : ℕ → ℕ) → length ns ≡ 32 → k ≤ 31 →
    ((j : ℕ) → j ≤ 31 → min 15 (sum (take (j + 1) ns)) ≡ min 15 (c j)) →
    min 15 (sum (take (k + 1) (with_poll ns))) ≡ min 15 (if k == 0 then 0 else c (k - 1))
poll_more [] k c long small h = absurd (omega arith)
poll_more (n ∷ ns) zero c long small h = refl
poll_more (n ∷ ns) (suc k) c long small h =
    let e : suc k - 1 ≡ k = omega arith in
    let d : suc k ≡ k + 1 = omega arith in
    let one : sum (take (suc k + 1) (0 ∷ take 31 (n ∷ ns))) ≡ sum (take (suc k) (take 31 (n ∷ ns))) =
    first_taken 0 (suc k) (take 31 (n ∷ ns)) ∙ omega arith in
    let two : sum (take (suc k) (take 31 (n ∷ ns))) ≡ sum (take (k + 1) (n ∷ ns)) =
    ap (λ (xs : List ℕ). sum xs) (take-take (suc k) 31 (n ∷ ns) small) ∙ ap (λ (m : ℕ). sum (take m (n ∷ ns))) d in
    let f : (suc k == 0) ≡ false = not_zero k in
    rw (f, e) (ap (λ (m : ℕ). min 15 m) (one ∙ two) ∙ h k (omega arith))

still_up : (plan : Settings) (up : List Bool) (d : ℕ) (there : Bool) → (d == plan.lists.control) ≡ false
    → slice_index_or (if there then slice_set up d true else up) plan.lists.control false ≡ true →
    slice_index_or up plan.lists.control false ≡ true
still_up plan up d true e k =
    sym (get_or-set_other up d plan.lists.control true false (eqb-false plan.lists.control d (flipped d plan.lists.control e))) ∙ k
still_up plan up d false e k = k

-- the first k + 1 noise numbers add up to a count, as far as 15
abbrev Counts : List ℕ → ℕ → ℕ → Type 0
Counts noise k count = min 15 (sum (take (k + 1) noise)) ≡ min 15 count

one_event : (plan : Settings) (now : Facts) (event : Event) (c : ℕ → ℕ) → (is_up now plan.lists.control ≡ true → length now.noise ≡ 32)
    → (is_up now plan.lists.control ≡ true → (j : ℕ) → j ≤ 31 → Counts now.noise j (c j)) → (k : ℕ) → k ≤ 31
    → slice_index_or (up_by_event plan now.up event) plan.lists.control false ≡ true
    → Counts (noise_by_event plan now.noise event) k (noises_with_event plan k event c)
one_event plan now (Up d) c window before k small up = elim (cases_Bool (d == plan.lists.control)) [
  | inl e ↦ rw e (omega (arith, no_noise_at_up (k + 1)))
  | inr e ↦ rw e (omega (arith, before (still_up plan now.up d (has_carrier plan d) e up) k small))
]
one_event plan now (Lost d) c window before k small up = elim (cases_Bool (d == plan.lists.control)) [
  | inl e ↦ true_false _ up (rw (eqb-true d plan.lists.control e) (cleared now.up plan.lists.control))
  | inr e ↦ (
      let same =
      get_or-set_other now.up d plan.lists.control false false (eqb-false plan.lists.control d (flipped d plan.lists.control e)) in
      rw e (omega (arith, before (sym same ∙ up) k small))
      )
]
one_event plan now (Noise slot) c window before k small up = elim (cases_Bool (is_control plan.lists slot)) [
  | inl e ↦ rw e (noise_more now.noise k (c k) (window up) (before up k small))
  | inr e ↦ rw e (omega (arith, before up k small))
]
one_event plan now (Poll d) c window before k small up = elim (cases_Bool (d == plan.lists.control)) [
  | inl e ↦ rw e (poll_more now.noise k c (window up) small (before up))
  | inr e ↦ rw e (omega (arith, before up k small))
]
one_event plan now event c window before k small up = omega (arith, before up k small)

counts : (plan : Settings) (facts : Facts) (journal : List Entry) → IsPlan plan → IsSound plan facts → IsLegal plan facts journal
    → is_up (facts_after plan facts journal) plan.lists.control ≡ true → (k : ℕ) → k ≤ 31
    → Counts (facts_after plan facts journal).noise k (noises_within plan facts.noise journal k)
counts plan facts [] p h legal up k small = refl
counts plan facts (entry ∷ earlier) p h legal up k small =
    let now : Facts = facts_after plan facts earlier in
    let sound : IsSound plan now = sound_after plan facts earlier (plan_known plan p) h legal.1 in
    let up_now : List Bool = up_by_event plan now.up entry.event in
    let up_then : slice_index_or up_now plan.lists.control false ≡ true =
    ap (λ (xs : List Bool). slice_index_or xs plan.lists.control false) (sym (same_after entry.acts.list up_now)) ∙ up in
    ap (λ (xs : List ℕ). min 15 (sum (take (k + 1) xs))) (same_after entry.acts.list (noise_by_event plan now.noise entry.event))
    ∙ one_event plan now entry.event (noises_within plan facts.noise earlier) sound.access.window
    (λ was j few. counts plan facts earlier p h legal.1 was j few) k small up_then

pub backoff_counts : (plan : Settings) (facts : Facts) (journal : List Entry) → IsPlan plan → IsSound plan facts →
    IsLegal plan facts journal → is_up (facts_after plan facts journal) plan.lists.control ≡ true →
    backoff_of plan.calls (facts_after plan facts journal).noise ≡ min plan.calls.backoff_high
    (plan.calls.backoff_low + recent_noises plan facts.noise journal)
backoff_counts plan facts journal p h legal up =
    let noise : List ℕ = (facts_after plan facts journal).noise in
    let sound : IsSound plan (facts_after plan facts journal) = sound_after plan facts journal (plan_known plan p) h legal in
    let all : length noise ≡ 32 = sound.access.window up in
    let same : sum (take 32 noise) ≡ sum noise = ap (λ (xs : List ℕ). sum xs) (take_all 32 noise (omega arith)) in
    let kept : min 15 (sum (take 32 noise)) ≡ min 15 (recent_noises plan facts.noise journal) =
    counts plan facts journal p h legal up 31 (omega arith) in
    let high : plan.calls.backoff_high ≤ 15 = p.calls.backoff_high.1 in
    omega arith
