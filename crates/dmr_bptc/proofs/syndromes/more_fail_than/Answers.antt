use Rattle.std.proofs.Common.{◌≡◌, ◌==◌, not, arith, ap}
use Rattle.std.proofs.lemmas.Bool.{eqb-false, ne_eqb, not-true, false≢true}
use Rattle.dmr_bptc.proofs.SyndromeLemmas.{is_rest-all, is_rest-next, is_rest-none, is_rest-more}
use Rattle.dmr_bptc.proofs.syndromes.more_fail_than.Goals as goal

pub loop-init : goal.loop-init
loop-init c = is_rest-all c.args.syndromes

pub returns-then-rest-eq0 : goal.returns-then-rest-eq0
returns-then-rest-eq0 c = (
  λ told. absurd (false≢true told),
  λ more. absurd (omega (
    arith,
    more,
    is_rest-none c.args.syndromes c.loop.rest c.loop.counter c.loop.invariant c.if-rest-eq0.true,
    c.loop-test.true,
  )),
)

pub loop-preserved : goal.loop-preserved
loop-preserved c = is_rest-next c.args.syndromes c.loop.rest c.loop.counter c.loop.invariant c.ranges.syndromes.fits c.first_failing.result
    c.first_failing.ensures.before c.first_failing.ensures.fails

pub returns : goal.returns
returns c = (
  λ told.
      let ne : c.loop.rest ≡ 0 → ⊥ = eqb-false c.loop.rest 0 (not-true (c.loop.rest == 0) told) in
      omega (
        arith,
        is_rest-more c.args.syndromes c.loop.rest c.loop.counter c.loop.invariant c.ranges.syndromes.fits
            c.loop.auto.rest-fits.fits (omega arith),
        c.loop-test.false,
      ),
  λ more. ap not (ne_eqb c.loop.rest 0
      (λ e. absurd (omega (
        arith,
        more,
        is_rest-none c.args.syndromes c.loop.rest c.loop.counter c.loop.invariant e,
        c.loop.auto.counter-end,
      )))),
)
