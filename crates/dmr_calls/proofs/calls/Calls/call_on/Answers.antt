use Rattle.std.proofs.Common.{rules, ◌≡◌, ◌<◌, ◌∙◌}
use Rattle.std.specs.Prelude.{find}
use Rattle.dmr_calls.specs.Calls.{is_slot}
use Rattle.dmr_calls.proofs.SlotLemmas.{found_on_slot}
use Rattle.dmr_calls.proofs.calls.Calls.call_on.Goals as goal

pub returns-in_err-found : goal.returns-in_err-found
returns-in_err-found c =
    let two : c.args.slot.slot < 2 = search rules in
    let found : c.find.result ≡ find (λ s. is_slot s.call.slot c.args.slot) c.self.inside.calls =
    rw c.index.ensures.value at c.find.ensures ∙ found_on_slot c.self.inside.calls c.args.slot c.self.invariant.1 two in
    rw (← c.self.view_is, ← found) (search rules)

pub returns : goal.returns
returns c =
    let two : c.args.slot.slot < 2 = search rules in
    let found : c.find.result ≡ find (λ s. is_slot s.call.slot c.args.slot) c.self.inside.calls =
    rw c.index.ensures.value at c.find.ensures ∙ found_on_slot c.self.inside.calls c.args.slot c.self.invariant.1 two in
    rw (← c.self.view_is, ← found) (search rules)
