use Rattle.std.proofs.Common.{◌≡◌, ◌≤◌, ℕ, ◌+◌, List, ◌∷◌, [], ◌++◌, length, length-take-le, take, get_or, sym, ap, ◌∙◌, arith, subst}
use Rattle.std.proofs.lemmas.List.{take_more}
use Rattle.std.proofs.lemmas.List.Sums.{fold_push}
use Rattle.dmr_frames.specs.declared.cutter.Step.TheVariants.{Need}
use Rattle.dmr_frames.specs.Rest.{Rest}
use Rattle.dmr_frames.specs.Reading.{ProduceAtLast, step_from, rest_after_octet, rest_after_octets}
use Rattle.dmr_frames.proofs.ReadingLemmas.{AreNeeds, produces-at_last, needs-more, needs-all}
use Rattle.dmr_frames.proofs.cutter.Cutter.feed_one_by_one.Goals as goal

pub returns-in_default : goal.returns-in_default
returns-in_default c =
    let octets = c.args.octets.now in
    let i = c.loop-octet.octet-index in
    let x = get_or octets i 0 in
    let count : c.loop-octet.count + 1 ≡ i + 1 = ap (λ (n : ℕ). n + 1) c.loop-octet.invariant.counted in
    let more : take (c.loop-octet.count + 1) octets ≡ take i octets ++ x ∷ [] =
    ap (λ (n : ℕ). take n octets) count ∙ take_more octets i 0 c.loop-octet-test.true in
    let step : step_from (rest_after_octets c.args.self.now (take i octets)) x ≡ c.take_octet.result =
    ap (λ (r : Rest). step_from r x) (sym c.loop-octet.invariant.rest) ∙ sym c.take_octet.ensures.step in
    let P : List ℕ → Type 0 = λ xs. ProduceAtLast c.args.self.now xs c.take_octet.result in
    record {
      within = omega (arith, count, c.loop-octet-test.true);
      whole = λ need. absurd (c.in_default.not-Need need);
      last = subst P (sym more) (produces-at_last c.args.self.now (take i octets) x c.take_octet.result c.loop-octet.invariant.needs step);
      rest =
          c.take_octet.ensures.rest
          ∙ ap (λ (r : Rest). rest_after_octet r x) c.loop-octet.invariant.rest
          ∙ sym (fold_push rest_after_octet c.args.self.now (take i octets) x)
          ∙ ap (λ (xs : List ℕ). rest_after_octets c.args.self.now xs) (sym more);
    }

pub loop-octet-preserved : goal.loop-octet-preserved
loop-octet-preserved c =
    let octets = c.args.octets.now in
    let i = c.loop-octet.octet-index in
    let x = get_or octets i 0 in
    let more : take (i + 1) octets ≡ take i octets ++ x ∷ [] = take_more octets i 0 c.loop-octet-test.true in
    let step : step_from (rest_after_octets c.args.self.now (take i octets)) x ≡ Need =
    ap (λ (r : Rest). step_from r x) (sym c.loop-octet.invariant.rest) ∙ sym c.take_octet.ensures.step ∙ c.in-Need.is in
    let P : List ℕ → Type 0 = λ xs. AreNeeds c.args.self.now xs in
    record {
      counted = ap (λ (n : ℕ). n + 1) c.loop-octet.invariant.counted;
      rest = c.take_octet.ensures.rest ∙ ap (λ (r : Rest). rest_after_octet r x) c.loop-octet.invariant.rest
          ∙ sym (fold_push rest_after_octet c.args.self.now (take i octets) x)
          ∙ ap (λ (xs : List ℕ). rest_after_octets c.args.self.now xs) (sym more);
      needs = subst P (sym more) (needs-more c.args.self.now (take i octets) x c.loop-octet.invariant.needs step);
    }

pub returns : goal.returns
returns c =
    let octets = c.args.octets.now in
    let counted = c.loop-octet.invariant.counted in
    let ends = c.loop-octet.auto.octet-index-end in
    let within : c.loop-octet.count ≤ length octets = omega (arith, counted, ends) in
    let whole : c.loop-octet.count ≡ length octets = omega (arith, counted, ends, c.loop-octet-test.false) in
    let same : take c.loop-octet.octet-index octets ≡ take c.loop-octet.count octets = ap (λ (n : ℕ). take n octets) (sym counted) in
    let P : List ℕ → Type 0 = λ xs. AreNeeds c.args.self.now xs in
    let Q : List ℕ → Type 0 = λ xs. c.loop-octet.self ≡ rest_after_octets c.args.self.now xs in
    record {
      within = within;
      whole = λ need. whole;
      last =
          needs-all c.args.self.now (take c.loop-octet.count octets) (subst P same c.loop-octet.invariant.needs)
          (omega (arith, c.requires, whole, length-take-le c.loop-octet.count octets within));
      rest = subst Q same c.loop-octet.invariant.rest;
    }
