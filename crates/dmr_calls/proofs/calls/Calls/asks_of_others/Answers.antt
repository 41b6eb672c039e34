use Rattle.std.proofs.Common.{arith, rules, ◌≡◌, ◌+◌, length}
use Rattle.std.specs.Prelude.{◌==◌, if◌then◌else◌}
use Rattle.std.specs.List.{list_any}
use Rattle.dmr_calls.specs.Asks.{others_than}
use Rattle.dmr_calls.proofs.OwnAskLemmas.{others_count}
use Rattle.dmr_calls.proofs.calls.Calls.asks_of_others.Goals as goal

pub returns : goal.returns
returns c =
    let count : length (others_than c.args.source c.self.inside.asks) +
    (if list_any (λ a. a.ask.source == c.args.source) c.self.inside.asks then 1 else 0) ≡ length c.self.inside.asks =
    others_count c.self.inside.asks c.args.source c.self.invariant.0 in
    let has : c.from.result ≡ (if list_any (λ a. a.ask.source == c.args.source) c.self.inside.asks then 1 else 0) = search rules in
    rw (← c.self.view_is) (omega (arith, count, has, c.len.ensures.value))
