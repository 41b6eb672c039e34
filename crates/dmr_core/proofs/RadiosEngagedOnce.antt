-- The radios after each act: each is engaged at most once, and parties are registered.
use Rattle.std.proofs.Common.{◌≡◌, ◌<◌, ◌≤◌, ◌+◌, ℕ, List, [], ◌∷◌, ◌++◌, Bool, true, false, refl, ap, arith, filter, length, get_or, inl}
use Rattle.std.proofs.Common.{inr, ◌≢◌}
use Rattle.std.specs.Prelude.{not, ◌==◌}
use Rattle.std.specs.List.{list_any}
use Rattle.std.proofs.lemmas.Bool.Decides.{nat_tests}
use Rattle.std.proofs.lemmas.Bool.{cases_lt, eq-eqb, false_from_ne_true, eqb-true}
use Rattle.std.proofs.lemmas.List.{length-append}
use Rattle.std.proofs.lemmas.List.Folds.{list_any_at}
use Rattle.std.proofs.lemmas.List.Kept.{AllPairs-filter}
use Rattle.std.proofs.lemmas.List.Quantifiers.{all_pairs_push}
use Rattle.dmr_registry.specs.Radios.{is_registered_in, without}
use Rattle.dmr_calls.specs.declared.ask.Ask.{Ask}
use Rattle.dmr_calls.specs.declared.ask.ActiveAsk.{ActiveAsk}
use Rattle.dmr_calls.specs.declared.line.Line.{Line}
use Rattle.dmr_calls.specs.declared.call.Call.{Call}
use Rattle.dmr_calls.specs.declared.call.ActiveCall.{ActiveCall}
use Rattle.dmr_calls.specs.Asks.{new_active_ask}
use Rattle.dmr_calls.specs.Calls.{just_begun}
use Rattle.dmr_core.specs.Sound.{AreRadiosSound, engagements, engagements_in_ask, engagements_in_call, engagements_in_line, party}
use Rattle.dmr_core.proofs.ListLemmas.{total-append, total-filter, any-push, length-filter_le, true_false}

-- other calls, asks and lines
module _ (radios : List ℕ) (calls more_calls : List ActiveCall) (asks more_asks : List ActiveAsk) (lines more_lines : List Line) where
  -- none engages a radio more often
  pub fewer_engaged : ((r : ℕ) → engagements more_calls more_asks more_lines r ≤ engagements calls asks lines r)
      → AreRadiosSound radios calls asks lines → AreRadiosSound radios more_calls more_asks more_lines
  fewer_engaged fewer h = record {
    distinct = h.distinct;
    parties = λ r k. h.parties r (omega (arith, k, fewer r));
    once = λ r. omega (arith, h.once r, fewer r);
    few = h.few;
  }

  -- one more has parties that are registered and were not engaged
  pub one_more_engaged : (group : Bool) (source target : ℕ)
      → ((r : ℕ) → engagements more_calls more_asks more_lines r ≡ engagements calls asks lines r + party r group source target)
      → ((r : ℕ) → 0 < party r group source target → is_registered_in radios r ≡ true)
      → ((r : ℕ) → engagements calls asks lines r + party r group source target ≤ 1)
      → AreRadiosSound radios calls asks lines → AreRadiosSound radios more_calls more_asks more_lines
  one_more_engaged group source target added known once h = record {
    distinct = h.distinct;
    parties = λ r k. elim (cases_lt 0 (engagements calls asks lines r)) [
      | inl e ↦ h.parties r e
      | inr e ↦ known r (omega (arith, k, e, added r))
    ];
    once = λ r. omega (arith, once r, added r);
    few = h.few;
  }

module _ (calls : List ActiveCall) (asks : List ActiveAsk) (lines : List Line) where
  -- the engagements that a new call, ask or line adds
  pub with_call : (call : Call) (r : ℕ)
      → engagements (calls ++ just_begun call ∷ []) asks lines r ≡ engagements calls asks lines r + party r call.group call.source
      call.target
  with_call call r = omega (arith, total-append (engagements_in_call r) calls (just_begun call))

  pub with_line : (l : Line) (r : ℕ)
      → engagements calls asks (lines ++ l ∷ []) r ≡ engagements calls asks lines r + party r l.group l.source l.target
  with_line l r = omega (arith, total-append (engagements_in_line r) lines l)

  pub with_ask : (a : Ask) (r : ℕ)
      → engagements calls (asks ++ new_active_ask a ∷ []) lines r ≡ engagements calls asks lines r + party r false a.source a.target
  with_ask a r = omega (arith, total-append (engagements_in_ask r) asks (new_active_ask a))

  -- those that removed ones had
  pub fewer_calls : (q : ActiveCall → Bool) (r : ℕ) → engagements (filter q calls) asks lines r ≤ engagements calls asks lines r
  fewer_calls q r = omega (arith, total-filter (engagements_in_call r) q calls)

  pub fewer_lines : (q : Line → Bool) (r : ℕ) → engagements calls asks (filter q lines) r ≤ engagements calls asks lines r
  fewer_lines q r = omega (arith, total-filter (engagements_in_line r) q lines)

  pub fewer_asks : (q : ActiveAsk → Bool) (r : ℕ) → engagements calls (filter q asks) lines r ≤ engagements calls asks lines r
  fewer_asks q r = omega (arith, total-filter (engagements_in_ask r) q asks)

any-others : (rs : List ℕ) (q r : ℕ) → (r == q) ≡ false → list_any (λ k. k == r) rs ≡ true
    → list_any (λ k. k == r) (filter (λ k. not (k == q)) rs) ≡ true
any-others [] q r differ h = h
any-others (k ∷ rs) q r differ h = other (any-others rs q r differ)
  where
    other : (list_any (λ k. k == r) rs ≡ true → list_any (λ k. k == r) (filter (λ k. not (k == q)) rs) ≡ true)
        → list_any (λ k. k == r) (filter (λ k. not (k == q)) (k ∷ rs)) ≡ true
    other more = grind (arith, nat_tests)

-- a radio joins, or one that is not engaged leaves
module _ (radios : List ℕ) (calls : List ActiveCall) (asks : List ActiveAsk) (lines : List Line)
    (h : AreRadiosSound radios calls asks lines) (q : ℕ) where
  pub radios-joined : is_registered_in radios q ≡ false → length radios < 4096 → AreRadiosSound (radios ++ q ∷ []) calls asks lines
  radios-joined new few = record {
    distinct = all_pairs_push (λ a b. a ≢ b) radios q h.distinct
        (λ k d lt same. true_false _ (list_any_at (λ x. x == q) radios k d lt (eq-eqb (get_or radios k d) q same)) new);
    parties = λ r k. rw (any-push (λ x. x == r) radios q, h.parties r k) refl;
    once = h.once;
    few = omega (arith, length-append radios (q ∷ []));
  }

  pub radios-left : engagements calls asks lines q ≡ 0 → AreRadiosSound (without radios q) calls asks lines
  radios-left none = record {
    distinct = AllPairs-filter (λ a b. a ≢ b) (λ x. not (x == q)) radios h.distinct;
    parties = λ r k. any-others radios q r (other_radio r k) (h.parties r k);
    once = h.once;
    few = omega (arith, h.few, length-filter_le (λ x. not (x == q)) radios);
  }
    where
      other_radio : (r : ℕ) → 0 < engagements calls asks lines r → (r == q) ≡ false
      other_radio r k = false_from_ne_true _
          (λ e. let same : engagements calls asks lines r ≡ engagements calls asks lines q = ap (λ (n : ℕ). engagements calls asks lines n)
          (eqb-true r q e) in omega arith)
