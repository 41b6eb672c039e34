use Rattle.std.proofs.Common.{rules, ◌≡◌}
use Rattle.dmr_calls.specs.Asks.{HaveOwnSources, others_than}
use Rattle.dmr_calls.proofs.OwnAskLemmas.{own_with}
use Rattle.dmr_calls.proofs.calls.Calls.add_ask.Goals as goal

pub invariant_of-self : goal.invariant_of-self
invariant_of-self c =
    let others : c.self.inside.asks ≡ others_than c.args.ask.now.source c.args.self.now.asks = search rules in
    let own : HaveOwnSources (others_than c.args.ask.now.source c.args.self.now.asks) = rw (← others) c.self.invariant.0 in
    (rw (c.push.ensures, others) (own_with c.args.ask.now c.args.self.now.asks own), c.self.invariant.1)
