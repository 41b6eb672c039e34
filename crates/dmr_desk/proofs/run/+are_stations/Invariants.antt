use Rattle.dmr_desk.proofs.run.+are_stations.Given as goal

abbrev pub decreases-are_stations : goal.decreases-are_stations
decreases-are_stations g l = l.many
