use Rattle.std.proofs.Common.{ap, ◌∙◌}
use Rattle.dmr_pool.specs.Slots.{Slots}
use Rattle.dmr_pool.specs.Free.{is_free}
use Rattle.dmr_pool.specs.Grants.{slots_with}
use Rattle.dmr_pool.proofs.MarkLemmas.{marked_free}
use Rattle.dmr_pool.proofs.pool.Pool.is_free.Goals as goal

pub returns : goal.returns
returns c =
    let slots : Slots = slots_with c.self.inside.outboxes c.self.inside.up c.self.inside.held in
    c.has.ensures.value ∙ marked_free c.self.inside.free.bits slots c.args.slot c.has.ensures.numbers c.self.invariant
    ∙ ap (λ (s : Slots). is_free s c.args.slot) c.self.view_is
