use Rattle.dmr_pool.proofs.GrantLemmas.{first_counted, first_kept}
use Rattle.dmr_pool.proofs.outboxes.Outboxes.new.Goals as goal

pub invariant_of-result : goal.invariant_of-result
invariant_of-result c = (
  first_kept _ c.in_ok-empty_outboxes.ensures,
  first_counted c.settings.result.now.lists _ c.in_ok-empty_outboxes.ensures,
  c.settings.ensures.limits.lists,
)
