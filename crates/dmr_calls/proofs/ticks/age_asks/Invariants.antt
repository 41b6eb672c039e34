use Rattle.std.proofs.Common.{◌≡◌, ◌++◌, take, drop, map}
use Rattle.dmr_calls.specs.Asks.{ask_after_tick}
use Rattle.dmr_calls.proofs.ticks.age_asks.Given as goal

abbrev pub invariant-loop-place : goal.invariant-loop-place
invariant-loop-place l = l.asks ≡ map ask_after_tick (take l.place l.fn.asks) ++ drop l.place l.fn.asks
