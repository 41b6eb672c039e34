use Rattle.std.proofs.Common.{rules, ◌≡◌, subst, MatchOption}
use Rattle.std.specs.Prelude.{Option}
use Rattle.dmr_calls.specs.declared.call.Call.{Call}
use Rattle.dmr_calls.specs.After.{group_after, HasNoGroupCall, IsNextGroupCall}
use Rattle.dmr_calls.proofs.AfterLemmas.{next_group_call}
use Rattle.dmr_calls.proofs.calls.Calls.group_after.Goals as goal

pub returns-in_err-place-clause-next : goal.returns-in_err-place-clause-next
unfolding group_after
returns-in_err-place-clause-next c =
    let value : group_after c.args.self.now.calls c.args.last ≡ c.from_residual.result = search rules in
    subst (λ (o : Option Call). MatchOption o (HasNoGroupCall c.args.self.now.calls) (IsNextGroupCall c.args.self.now.calls c.args.last))
    value (next_group_call c.args.self.now.calls c.args.last c.place_after.ensures.site)

pub returns-clause-next : goal.returns-clause-next
unfolding group_after
returns-clause-next c =
    let value : group_after c.args.self.now.calls c.args.last ≡ c.call_on.result = search rules in
    subst (λ (o : Option Call). MatchOption o (HasNoGroupCall c.args.self.now.calls) (IsNextGroupCall c.args.self.now.calls c.args.last))
    value (next_group_call c.args.self.now.calls c.args.last c.place_after.ensures.site)
