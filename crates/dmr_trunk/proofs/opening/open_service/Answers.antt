use Rattle.std.proofs.Common.{◌∙◌}
use Rattle.dmr_desk.specs.Refusing.{carrier_numbers}
use Rattle.dmr_core.specs.Restored.{facts_with, restored}
use Rattle.dmr_trunk.specs.Opened.{AreNewStations}
use Rattle.dmr_trunk.proofs.OpenedLemmas.{at_ok, first_fits}
use Rattle.dmr_trunk.proofs.opening.open_service.Goals as goal

pub returns-clause-fits : goal.returns-clause-fits
returns-clause-fits g c =
    let plan = c.args.plan.now in
    let same = c.in_ok-site-2.ensures in
    first_fits plan (facts_with (restored plan c.args.radios.now)) c.in_ok-site-2.site c.in_ok-site-2.opened.stations.items
    c.use_invariant.ensures (same.0 ∙ c.in_ok-site.ensures.facts)
    (at_ok (λ opened. AreNewStations plan (carrier_numbers plan) opened.stations.items) c.open_ports.result c.in_ok-site-2.opened same.1
    c.open_ports.ensures.stations)
