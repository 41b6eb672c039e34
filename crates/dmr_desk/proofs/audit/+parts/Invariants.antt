use Prim.Native.Nat.{◌+◌, ◌*◌}
use Rattle.dmr_desk.proofs.audit.+parts.Given as goal

abbrev pub decreases-first_differing_by : goal.decreases-first_differing_by
decreases-first_differing_by g l = 2 * l.threads

abbrev pub decreases-join+arg3 : goal.decreases-join+arg3
decreases-join+arg3 g l = 2 * l.left + 1
