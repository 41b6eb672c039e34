use Rattle.dmr_desk.specs.Refusing.{numbers_from}
use Rattle.dmr_trunk.specs.Opened.{AreNewStations}
use Rattle.dmr_trunk.proofs.opening.fill_stations.Given as goal

-- so far there is a station for each carrier of the plan whose number is lower
abbrev pub invariant-loop-number : goal.invariant-loop-number
invariant-loop-number g l = AreNewStations l.plan (numbers_from l.plan l.number 0) l.stations.items
