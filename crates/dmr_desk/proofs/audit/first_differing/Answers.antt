use Rattle.std.proofs.Common.{◌≡◌, ℕ, None, inl, inr, ap, sym, ◌∙◌, arith}
use Rattle.std.specs.Prelude.{slice_get, Some}
use Rattle.std.proofs.lemmas.Bool.{cases_lt}
use Rattle.dmr_desk.specs.Views.{view_of}
use Rattle.dmr_desk.proofs.ViewLemmas.{same_at, differs_at, view_at}
use Rattle.dmr_desk.proofs.audit.first_differing.Goals as goal

pub returns-then-ne : goal.returns-then-ne
returns-then-ne c =
    let views = c.args.views.now.items in
    let place = c.loop-place.place in
    let deposits = c.as_slice-in-loop-place.result.now in
    let here = view_at views c.as_slice.result.now place c.index-as_slice-place.result deposits c.as_slice.ensures.value
    (omega arith) c.index-as_slice-place.is c.as_slice-in-loop-place.ensures in (
      omega arith,
      omega arith,
      differs_at c.args.from c.args.to views c.args.journal.now c.follow_some-turns.result place deposits None (omega arith)
          (omega arith) c.follow_some-turns.ensures here c.if-ne.ensures,
      c.loop-place.invariant,
    )

pub loop-place-preserved : goal.loop-place-preserved
loop-place-preserved c actor low within =
    let views = c.args.views.now.items in
    let journal = c.args.journal.now in
    let place = c.loop-place.place in
    let deposits = c.as_slice-in-loop-place.result.now in
    let here = view_at views c.as_slice.result.now place c.index-as_slice-place.result deposits c.as_slice.ensures.value
    (omega arith) c.index-as_slice-place.is c.as_slice-in-loop-place.ensures in
    let this = same_at c.args.from c.args.to views journal c.follow_some-turns.result place deposits None (omega arith)
    (omega arith) c.follow_some-turns.ensures here c.if-ne.ensures in
    elim (cases_lt actor place) [
      | inl before ↦ c.loop-place.invariant actor low before
      | inr at ↦
          let e : actor ≡ place = omega arith in
          ap (λ (k : ℕ). slice_get views k) e ∙ this ∙ ap (λ (k : ℕ). Some (view_of k journal)) (sym e)
    ]
