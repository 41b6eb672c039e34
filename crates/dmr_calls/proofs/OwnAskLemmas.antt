-- No radio has two asks, after each change.
use Rattle.std.proofs.Common.{arith, ◌≡◌, ◌≢◌, ℕ, zero, suc, ◌<◌, ◌+◌, List, [], ◌∷◌, ◌++◌, true, false, refl, length, map, get_or, ◌∙◌}
use Rattle.std.proofs.Common.{sym, ap}
use Rattle.std.specs.Prelude.{◌==◌, ◌||◌, not, find, if◌then◌else◌}
use Rattle.std.specs.List.{list_any}
use Rattle.std.specs.Option.{option_map_or}
use Rattle.std.proofs.lemmas.Bool.Decides.{nat_tests}
use Rattle.std.proofs.lemmas.List.{length-map}
use Rattle.std.proofs.lemmas.List.Elements.{filter_passes}
use Rattle.std.proofs.lemmas.List.Quantifiers.{all_pairs_push}
use Rattle.dmr_calls.specs.declared.ask.Ask.{Ask}
use Rattle.dmr_calls.specs.declared.ask.ActiveAsk.{ActiveAsk}
use Rattle.dmr_calls.proofs.AnyLemmas.{none_passes_both}
use Rattle.dmr_calls.specs.Asks.{HaveOwnSources, new_active_ask, ask_after_tick, others_than, has_own_ask}

-- a number that differs from another
other_source : (a b : ℕ) → not (a == b) ≡ true → a ≢ b
other_source a b h same = grind (arith, nat_tests)

-- an ask after those of other sources
pub own_with : (ask : Ask) (asks : List ActiveAsk) → HaveOwnSources (others_than ask.source asks) →
    HaveOwnSources (others_than ask.source asks ++ new_active_ask ask ∷ [])
own_with ask asks own =
    all_pairs_push (λ (a b : ActiveAsk). a.ask.source ≢ b.ask.source) (others_than ask.source asks) (new_active_ask ask) own
    (λ k d within. other_source _ _ (filter_passes (λ (a : ActiveAsk). not (a.ask.source == ask.source)) asks k d within))

-- a tick changes no source
same_source : (asks : List ActiveAsk) (k : ℕ) (d : ActiveAsk) → (get_or (map ask_after_tick asks) k d).ask.source ≡
    (get_or asks k d).ask.source
same_source [] k d = refl
same_source (a ∷ asks) zero d = refl
same_source (a ∷ asks) (suc k) d = same_source asks k d

-- the asks after a tick
pub own_after : (asks : List ActiveAsk) → HaveOwnSources asks → HaveOwnSources (map ask_after_tick asks)
own_after asks own i j d before within same =
    own i j d before (omega (arith, length-map asks ask_after_tick)) (sym (same_source asks i d) ∙ same ∙ same_source asks j d)

-- the asks after the first have distinct sources too
own_tail : (a : ActiveAsk) (asks : List ActiveAsk) → HaveOwnSources (a ∷ asks) → HaveOwnSources asks
own_tail a asks own i j d before within = own (suc i) (suc j) d (omega (arith, before)) (omega (arith, within))

-- if the first ask is of a source, the others are not
rest_is_other : (a : ActiveAsk) (asks : List ActiveAsk) (source : ℕ) → HaveOwnSources (a ∷ asks) → (a.ask.source == source) ≡ true →
    list_any (λ (b : ActiveAsk). b.ask.source == source) asks ≡ false
rest_is_other a asks source own same = none_same asks
    (λ k d within. let other : a.ask.source ≢ (get_or asks k d).ask.source = own 0 (suc k) d (omega arith) (omega (arith, within)) in
    grind (arith, nat_tests))
  where
    none_same : (bs : List ActiveAsk) → ((k : ℕ) (d : ActiveAsk) → k < length bs → ((get_or bs k d).ask.source == source) ≡ false) →
        list_any (λ (b : ActiveAsk). b.ask.source == source) bs ≡ false
    none_same [] other = refl
    none_same (b ∷ bs) other = ap (λ t. t || list_any (λ (c : ActiveAsk). c.ask.source == source) bs) (other 0 b (omega arith))
        ∙ none_same bs (λ k d within. other (suc k) d (omega (arith, within)))

-- the asks of other sources are all but the one of the source
pub others_count : (asks : List ActiveAsk) (source : ℕ) → HaveOwnSources asks →
    length (others_than source asks) + (if list_any (λ (a : ActiveAsk). a.ask.source == source) asks then 1 else 0) ≡ length asks
others_count [] source own = refl
others_count (a ∷ asks) source own =
    let none = rest_is_other a asks source own in let more = others_count asks source (own_tail a asks own) in grind arith

-- the target of a source's one ask decides whether the source asks the target
pub own_ask_read : (asks : List ActiveAsk) (source target : ℕ) → HaveOwnSources asks →
    has_own_ask asks source target ≡ option_map_or (λ (c : ActiveAsk). c.ask.target == target)
    (find (λ c. c.ask.source == source) asks) false
own_ask_read [] source target own = refl
own_ask_read (a ∷ asks) source target own =
    let none : (a.ask.source == source) ≡ true → has_own_ask asks source target ≡ false = λ e.
    none_passes_both (λ (c : ActiveAsk). c.ask.source == source) (λ c. c.ask.target == target) asks
    (rest_is_other a asks source own e) in
    let more = own_ask_read asks source target (own_tail a asks own) in
    grind arith
