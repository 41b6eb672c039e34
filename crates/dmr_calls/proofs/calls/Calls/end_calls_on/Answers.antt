use Rattle.std.proofs.Common.{rules, ◌≡◌, ◌<◌, List, ap, ◌∙◌}
use Rattle.std.proofs.lemmas.List.Elements.{All-filter}
use Rattle.dmr_calls.specs.declared.call.ActiveCall.{ActiveCall}
use Rattle.dmr_calls.specs.ActiveLists.{ActiveLists}
use Rattle.dmr_calls.specs.Calls.{on_other_slots}
use Rattle.dmr_calls.proofs.SlotLemmas.{left_on_slots}
use Rattle.dmr_calls.proofs.calls.Calls.end_calls_on.Goals as goal

pub invariant_of-self : goal.invariant_of-self
invariant_of-self c =
    (c.self.invariant.0, rw c.remove.ensures (All-filter _ (λ (s : ActiveCall). s.call.slot.slot < 2) _ c.self.invariant.1))

pub returns : goal.returns
returns c =
    let two : c.args.slot.now.slot < 2 = search rules in
    let left : c.remove.new.self ≡ on_other_slots c.args.slot.now c.self.inside.calls =
    rw c.index.ensures.value at c.remove.ensures ∙ left_on_slots c.self.inside.calls c.args.slot.now c.self.invariant.1 two in
    rw (← c.self.view_is) (ap (λ (xs : List ActiveCall). let now : ActiveLists =
    record { asks = c.self.inside.asks; lines = c.self.inside.lines; calls = xs } in now) left)
