use Rattle.dmr_trunk.proofs.PlanLemmas.{served_if_opened}
use Rattle.dmr_trunk.proofs.serve.serve_woken.Goals as goal

pub returns-in-Ok : goal.returns-in-Ok
returns-in-Ok g c =
    served_if_opened g.K.Keeper.kept g.K.Keeper.refuses g.K.Keeper.wants c.args.plan.now c.args.radios.now c.args.keeper c.args.terms
    c.in-Ok.service c.in-Ok.ensures.first c.in-Ok.ensures.fits (λ rest. rest.0)
    (λ rest. rest.1) c.open_rest-rest.result c.serve_opened.result c.open_rest-rest.ensures.books
    c.serve_opened.ensures
