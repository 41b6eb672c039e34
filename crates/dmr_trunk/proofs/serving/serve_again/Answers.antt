use Rattle.dmr_trunk.proofs.PlanLemmas.{served_again}
use Rattle.dmr_trunk.proofs.serving.serve_again.Goals as goal

pub returns : goal.returns
returns g c =
    served_again _ g.K.Store.reads g.K.Store.cannot_read g.K.Keeper.kept g.K.Keeper.refuses g.K.Keeper.wants c.args.plan c.args.store
    c.read_registered-radios.new.store c.args.terms c.read_registered-radios.result.items c.as_slice.result.now c.serve_kept.result
    c.as_slice.ensures.value c.read_registered-radios.ensures
    c.serve_kept.ensures
