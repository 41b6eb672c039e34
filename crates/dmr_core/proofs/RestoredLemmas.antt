-- A site that starts with radios registered.
use Rattle.std.proofs.Common.{◌≡◌, ◌≢◌, ◌≤◌, ◌<◌, ℕ, List, [], ◌∷◌, ◌++◌, Bool, true, false, refl, sym, subst, ◌∙◌, ap, arith, length}
use Rattle.std.proofs.Common.{length-append, append_assoc}
use Rattle.std.specs.Prelude.{fold, filter, cond}
use Rattle.std.specs.List.{All}
use Rattle.std.proofs.Math.Seq.{get_or-append_seam}
use Rattle.std.proofs.lemmas.Bool.{false_from_ne_true}
use Rattle.std.proofs.lemmas.Bool.Decides.{nat_tests}
use Rattle.std.proofs.lemmas.List.{append-nil, get_or_append_left}
use Rattle.std.proofs.lemmas.List.Elements.{All-push, All-head, All-tail, All-nil, filter_passes}
use Rattle.std.proofs.lemmas.List.Kept.{AllPairs-filter}
use Rattle.dmr_plan.specs.declared.settings.Settings.{Settings}
use Rattle.dmr_plan.specs.Plan.{lists_radio}
use Rattle.dmr_registry.specs.Radios.{AreDistinct, is_registered_in, is_full, radios_after_join}
use Rattle.dmr_core.specs.Restored.{restored, facts_with}
use Rattle.dmr_core.specs.Sound.{AreRadiosSound, IsSound}
use Rattle.dmr_core.proofs.ListLemmas.{length-filter_le}
use Rattle.dmr_core.proofs.NothingIsSound.{nothing_is_sound}
use Rattle.dmr_registry.proofs.Laws.{held_contains}

-- with distinct radios registered, the facts are sound
pub restored_is_sound : (plan : Settings) (radios : List ℕ) → AreDistinct radios → length radios ≤ 4096 → IsSound plan (facts_with radios)
restored_is_sound plan radios distinct few =
    let nothing = nothing_is_sound plan in
    let registered : AreRadiosSound radios [] [] [] =
    record { distinct = distinct; parties = λ r k. absurd (omega arith); once = λ r. omega arith; few = few } in
    assumption registered

-- a radio that joins, with what holds of each radio
joined-each : (P : ℕ → Type 0) (held : List ℕ) (radio : ℕ) (is_there is_no_room : Bool) → All P held → P radio →
    All P (cond is_there held (cond is_no_room held (held ++ radio ∷ [])))
joined-each P held radio true no_room each one = each
joined-each P held radio false true each one = each
joined-each P held radio false false each one = All-push P held radio each one

all_join-each : (P : ℕ → Type 0) (held radios : List ℕ) → All P held → All P radios → All P (fold radios_after_join held radios)
all_join-each P held [] each more = each
all_join-each P held (radio ∷ radios) each more =
    all_join-each P (radios_after_join held radio) radios
    (joined-each P held radio (is_registered_in held radio) (is_full held) each (All-head P radio radios more))
    (All-tail P radio radios more)

-- the plan lists each of the radios
pub restored-listed : (plan : Settings) (radios : List ℕ) → All (λ radio. lists_radio plan radio ≡ true) (restored plan radios)
restored-listed plan radios =
    let P : ℕ → Type 0 = λ radio. lists_radio plan radio ≡ true in
    all_join-each P [] (filter (lists_radio plan) radios) (All-nil P) (filter_passes (lists_radio plan) radios)

-- a radio that comes later in a list of distinct ones is not registered yet
fresh : (held : List ℕ) (radio : ℕ) (radios : List ℕ) → AreDistinct (held ++ radio ∷ radios) → is_registered_in held radio ≡ false
fresh held radio radios distinct = false_from_ne_true _ (λ is.
    let there = held_contains held radio is in
    let at = get_or_append_left held (radio ∷ radios) radio there.0 there.1 in
    let last = get_or-append_seam held radio radios radio in
    distinct there.0 (length held) radio there.1 (omega (arith, length-append held (radio ∷ radios))) (at ∙ there.2 ∙ sym last))

not_full : (held : List ℕ) → length held < 4096 → is_full held ≡ false
not_full held room = grind (arith, nat_tests)

-- distinct radios for which there is room all join, in their order
all_join : (held radios : List ℕ) → AreDistinct (held ++ radios) → length (held ++ radios) ≤ 4096 →
    fold radios_after_join held radios ≡ held ++ radios
all_join held [] distinct few = sym (append-nil held)
all_join held (radio ∷ radios) distinct few =
    let same : (held ++ radio ∷ []) ++ radios ≡ held ++ radio ∷ radios = append_assoc held (radio ∷ []) radios in
    let room : length held < 4096 = omega (arith, length-append held (radio ∷ radios)) in
    let step : radios_after_join held radio ≡ held ++ radio ∷ [] = rw (fresh held radio radios distinct, not_full held room) refl in
    ap (λ (h : List ℕ). fold radios_after_join h radios) step
    ∙ all_join (held ++ radio ∷ []) radios (subst (λ (xs : List ℕ). AreDistinct xs) (sym same) distinct)
    (subst (λ (xs : List ℕ). length xs ≤ 4096) (sym same) few)
    ∙ same

-- if they are distinct and there is room, the radios are those that the plan lists, in their order
pub restored-all : (plan : Settings) (radios : List ℕ) → AreDistinct radios → length radios ≤ 4096 →
    restored plan radios ≡ filter (lists_radio plan) radios
restored-all plan radios distinct few =
    all_join [] (filter (lists_radio plan) radios) (AllPairs-filter (λ a b. a ≢ b) (lists_radio plan) radios distinct)
    (omega (arith, length-filter_le (lists_radio plan) radios))
