use Rattle.std.proofs.Common.{◌≡◌, Err, refl, rules}
use Rattle.dmr_keeper.proofs.HandingLemmas.{handed_one, handed_refused, oldest_of, refused_first}
use Rattle.dmr_keeper.proofs.record_queue.hand_oldest.Goals as goal

pub returns-clause-handed : goal.returns-clause-handed
returns-clause-handed g c =
    handed_one _ _ _ _ _ (oldest_of _ _ _ c.requires c.index.ensures c.remove.ensures.items) c.in_ok-keep.ensures.kept

pub returns-in_err-keep-clause-handed : goal.returns-in_err-keep-clause-handed
returns-in_err-keep-clause-handed g c = handed_refused _ _ _ _ refl c.in_err-keep.ensures.same

pub returns-in_err-keep-clause-refused : goal.returns-in_err-keep-clause-refused
returns-in_err-keep-clause-refused g c =
    let err : c.from_residual.result ≡ Err c.in_err-keep.field-0.0 = search rules in
    rw err (refused_first g.K.Keeper.kept g.K.Keeper.refuses _ _ _ _ c.in_err-keep.field-0.0
    (oldest_of _ _ _ c.requires c.index.ensures refl) c.in_err-keep.ensures.refused)
