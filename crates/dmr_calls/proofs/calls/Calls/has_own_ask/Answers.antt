use Rattle.std.proofs.Common.{◌≡◌, rules, sym, ap, ◌∙◌, false}
use Rattle.std.specs.Prelude.{◌==◌, Option, Some, None, find}
use Rattle.std.specs.Option.{option_map_or}
use Rattle.dmr_calls.specs.declared.ask.ActiveAsk.{ActiveAsk}
use Rattle.dmr_calls.proofs.OwnAskLemmas.{own_ask_read}
use Rattle.dmr_calls.proofs.calls.Calls.has_own_ask.Goals as goal

pub returns-in_default : goal.returns-in_default
returns-in_default c =
    let found : find (λ a. a.ask.source == c.args.source) c.self.inside.asks ≡ None = search rules in
    rw (← c.self.view_is) (sym (own_ask_read c.self.inside.asks c.args.source c.args.target c.self.invariant.0
    ∙ ap (λ (o : Option ActiveAsk). option_map_or (λ (a : ActiveAsk). a.ask.target == c.args.target) o false) found))

pub returns : goal.returns
returns c =
    let found : find (λ a. a.ask.source == c.args.source) c.self.inside.asks ≡ Some c.in-Some.own = search rules in
    let told = own_ask_read c.self.inside.asks c.args.source c.args.target c.self.invariant.0
    ∙ ap (λ (o : Option ActiveAsk). option_map_or (λ (a : ActiveAsk). a.ask.target == c.args.target) o false) found in
    rw (← c.self.view_is, told) (search rules)
