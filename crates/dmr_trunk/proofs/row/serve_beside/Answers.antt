use Rattle.dmr_trunk.proofs.row.serve_beside.Goals as goal

pub returns : goal.returns
returns g c = c.scoped.ensures.1
