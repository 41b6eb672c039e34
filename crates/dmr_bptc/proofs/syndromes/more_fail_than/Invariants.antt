use Rattle.dmr_bptc.proofs.SyndromeLemmas.{IsRest}
use Rattle.dmr_bptc.proofs.syndromes.more_fail_than.Given as goal

abbrev pub invariant-loop : goal.invariant-loop
invariant-loop l = IsRest l.syndromes l.rest l.counter
