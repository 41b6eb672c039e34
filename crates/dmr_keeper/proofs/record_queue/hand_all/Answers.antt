use Rattle.std.proofs.Common.{◌≡◌, Err, ◌∙◌, arith, refl, rules}
use Rattle.dmr_keeper.proofs.HandingLemmas.{handed_none, handed_on, refused_on}
use Rattle.dmr_keeper.proofs.record_queue.hand_all.Goals as goal

pub loop-terms-init : goal.loop-terms-init
loop-terms-init g c = record { handed = handed_none _ _; fewer = omega arith; room = refl }

pub loop-terms-preserved : goal.loop-terms-preserved
loop-terms-preserved g c =
    let less = c.in_ok-hand_oldest.ensures.removed in
    let few = c.loop-terms.invariant.fewer in
    record {
      handed = handed_on _ _ _ _ _ _ c.loop-terms.invariant.handed c.hand_oldest.ensures.handed;
      fewer = omega (arith, less, few);
      room = c.hand_oldest.ensures.room ∙ c.loop-terms.invariant.room;
    }

pub returns-in_err-hand_oldest-clause-handed : goal.returns-in_err-hand_oldest-clause-handed
returns-in_err-hand_oldest-clause-handed g c = handed_on _ _ _ _ _ _ c.loop-terms.invariant.handed c.hand_oldest.ensures.handed

pub returns-in_err-hand_oldest-clause-refused : goal.returns-in_err-hand_oldest-clause-refused
returns-in_err-hand_oldest-clause-refused g c =
    let err : c.from_residual.result ≡ Err c.in_err-hand_oldest.field-0.0 = search rules in
    rw err (refused_on g.K.Keeper.kept g.K.Keeper.refuses _ _ _ _ _ c.in_err-hand_oldest.field-0.0 c.loop-terms.invariant.handed
    c.in_err-hand_oldest.ensures.refused)
