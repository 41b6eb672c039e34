use Rattle.std.proofs.Common.{◌≡◌, Bool, sym, ap, ◌∙◌, arith}
use Rattle.std.specs.Prelude.{if◌then◌else◌, set}
use Rattle.std.proofs.lemmas.List.{set-get_or}
use Rattle.std.proofs.lemmas.List.Edits.{map_over_more}
use Rattle.dmr_calls.specs.declared.call.ActiveCall.{ActiveCall}
use Rattle.dmr_calls.specs.Calls.{with_activity}
use Rattle.dmr_calls.proofs.ticks.mark_active.Goals as goal
use Rattle.dmr_calls.proofs.ticks.mark_active.Goals.{then-is_on, else-is_on}

pub loop-place-preserved : goal.loop-place-preserved
loop-place-preserved c =
    let active_call = c.index-as_slice-place.result in
    let calls = c.loop-place.calls in
    let here = rw c.as_slice.ensures.value at c.index-as_slice-place.is in
    let more = map_over_more (with_activity c.args.slot.now) c.args.calls.now calls c.loop-place.place active_call
    (omega arith) c.loop-place.invariant here in
    let after : Bool → ActiveCall = λ on. if on then record { call = active_call.call; age = active_call.age; quiet = 0 } else
    active_call in
    let marked : with_activity c.args.slot.now active_call ≡ after c.is_on.result = ap after (sym c.is_on.ensures) in
    elim c.if-is_on.branch [
      | then-is_on w ↦ w.calls-is ∙ w.replace.ensures ∙ ap (set calls c.loop-place.place) (sym (marked ∙ ap after w.if-is_on.true)) ∙ more
      | else-is_on w ↦ w.calls-is ∙ sym (set-get_or calls c.loop-place.place active_call)
          ∙ ap (set calls c.loop-place.place) (sym (marked ∙ ap after w.if-is_on.false ∙ here)) ∙ more
    ]
