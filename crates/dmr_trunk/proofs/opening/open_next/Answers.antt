use Rattle.dmr_trunk.proofs.OpenedLemmas.{station_then}
use Rattle.dmr_trunk.proofs.opening.open_next.Goals as goal

pub returns : goal.returns
returns g c = station_then c.args.plan.now c.args.stations.now.items c.push_to.new.list.items c.args.carrier c.in-Some.row
    c.in_ok-station.station c.push_to.result c.in-Some.ensures.gives c.in-Some.ensures.found c.in_ok-station.ensures c.push_to.ensures
