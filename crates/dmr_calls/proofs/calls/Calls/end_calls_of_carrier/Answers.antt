use Rattle.std.proofs.Common.{◌≡◌, ◌<◌, List, ap, ◌∙◌}
use Rattle.std.proofs.lemmas.List.Elements.{All-filter}
use Rattle.dmr_calls.specs.declared.call.ActiveCall.{ActiveCall}
use Rattle.dmr_calls.specs.ActiveLists.{ActiveLists}
use Rattle.dmr_calls.specs.Calls.{on_other_carriers}
use Rattle.dmr_calls.proofs.SlotLemmas.{left_on_carriers}
use Rattle.dmr_calls.proofs.calls.Calls.end_calls_of_carrier.Goals as goal

pub invariant_of-self : goal.invariant_of-self
invariant_of-self c =
    let on = λ (s : ActiveCall). s.call.slot.slot < 2 in
    (c.self.invariant.0, rw (c.remove-2.ensures, c.remove.ensures) (All-filter _ on _ (All-filter _ on _ c.self.invariant.1)))

pub returns : goal.returns
returns c =
    let left : c.remove-2.new.self ≡ on_other_carriers c.args.carrier c.self.inside.calls =
    rw (c.remove.ensures, c.get-first.ensures.value) at c.remove-2.ensures
    ∙ left_on_carriers c.self.inside.calls c.args.carrier c.self.invariant.1 in
    rw (← c.self.view_is) (ap (λ (xs : List ActiveCall). let now : ActiveLists =
    record { asks = c.self.inside.asks; lines = c.self.inside.lines; calls = xs } in now) left)
