use Rattle.std.proofs.Common.{vec_len}
use Rattle.dmr_desk.proofs.threads.+run_stations.Given as goal

abbrev pub decreases-run_stations : goal.decreases-run_stations
decreases-run_stations g l = vec_len l.stations
