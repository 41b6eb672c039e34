use Rattle.std.proofs.Common.{sym, subst, ap, ◌∙◌, refl}
use Rattle.dmr_calls.specs.ActiveLists.{ActiveLists}
use Rattle.dmr_pool.specs.Slots.{Slots, is_slot_held}
use Rattle.dmr_core.specs.Facts.{Facts}
use Rattle.dmr_core.specs.State.{SiteState}
use Rattle.dmr_core.specs.Words.{has_call_on}
use Rattle.dmr_core.specs.May.{MayBegin}
use Rattle.dmr_core.proofs.FreeLemmas.{pool_free}
use Rattle.dmr_core.proofs.HeldLemmas.{begun}
use Rattle.dmr_core.proofs.machine.Machine.begin_call.Goals as goal

pub hold-requires : goal.hold-requires
hold-requires c =
    let may = subst (λ (s : SiteState). MayBegin s.plan s.facts c.args.call.now) (sym c.self.view_is) c.requires in
    let facts : Facts = record {
      up = c.self.inside.pool.up;
      registered = c.self.inside.registry;
      asks = c.self.inside.calls.asks;
      lines = c.self.inside.calls.lines;
      calls = c.self.inside.calls.calls;
      outboxes = c.self.inside.pool.outboxes;
      noise = c.self.inside.access.noise;
      moving = c.self.inside.moving;
      fills = c.self.inside.access.fills;
      late = c.self.inside.late;
    } in
    pool_free c.self.inside.plan facts c.self.inside.pool c.self.invariant.3 refl refl c.self.invariant.4 c.args.call.now.slot
    c.slot_is_in_range.ensures ∙ may.free

pub invariant_of-self : goal.invariant_of-self
invariant_of-self c =
    let calls = c.self.inside.calls.calls in
    let held = c.self.inside.pool.held in
    let call = c.args.call.now in (
      c.self.invariant.0,
      c.self.invariant.1,
      c.self.invariant.2,
      ap (λ (p : Slots). p.lists) c.hold.ensures ∙ c.self.invariant.3,
      λ s is.
          ap (λ (p : Slots). is_slot_held p.held s) c.hold.ensures
          ∙ begun held calls call c.use_invariant.ensures.held c.slot_is_in_range.ensures c.self.invariant.4 s is
          ∙ sym (ap (λ (n : ActiveLists). has_call_on n.calls s) c.add_call.ensures),
    )

pub add_call-requires : goal.add_call-requires
add_call-requires c =
    let may = subst (λ (s : SiteState). MayBegin s.plan s.facts c.args.call.now) (sym c.self.view_is) c.requires in may.few
