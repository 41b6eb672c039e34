-- The test whether asks, lines and calls are the same.
use Rattle.std.specs.Prelude.{◌≡◌, ◌==◌, ◌&&◌, Bool}
use Rattle.std.specs.Bool.{Decides, beq}
use Rattle.std.specs.Cmp.{decided, IsEquivalence}
use Rattle.std.specs.Cmp.Lexicographic.{pointwise, pointwise_decides}
use Rattle.std.proofs.Common.{ap, rules}
use Rattle.std.proofs.lemmas.Bool.Decides.{Decides-and}
use Rattle.dmr_calls.specs.declared.ask.Ask.{Ask}
use Rattle.dmr_calls.specs.declared.ask.ActiveAsk.{ActiveAsk}
use Rattle.dmr_calls.specs.declared.line.Line.{Line}
use Rattle.dmr_calls.specs.declared.call.Call.{Call}
use Rattle.dmr_calls.specs.declared.call.ActiveCall.{ActiveCall}
use Rattle.dmr_calls.specs.ActiveLists.{ActiveLists}
use Rattle.dmr_calls.specs.Calls.{is_slot}

-- two asks are the same
abbrev pub is_same_ask : Ask → Ask → Bool
is_same_ask a b =
    (a.source == b.source) && (a.target == b.target) && (a.options == b.options)
    && (a.attempt == b.attempt)

-- two asks are the same, with the same waiting time
abbrev pub is_same_active_ask : ActiveAsk → ActiveAsk → Bool
is_same_active_ask a b = is_same_ask a.ask b.ask && (a.waited == b.waited)

-- two lines are the same
abbrev pub is_same_line : Line → Line → Bool
is_same_line a b = (a.source == b.source) && (a.target == b.target) && beq a.group b.group

-- two calls are the same
abbrev pub is_same_call : Call → Call → Bool
is_same_call a b =
    is_slot a.slot b.slot && (a.source == b.source) && (a.target == b.target) && beq a.group b.group

-- two calls are the same, with the same age and quiet time
abbrev pub is_same_active_call : ActiveCall → ActiveCall → Bool
is_same_active_call a b = is_same_call a.call b.call && (a.age == b.age) && (a.quiet == b.quiet)

-- the same asks, lines and calls, in the same order
abbrev pub are_same : ActiveLists → ActiveLists → Bool
are_same a b =
    pointwise is_same_active_ask a.asks b.asks && pointwise is_same_line a.lines b.lines
    && pointwise is_same_active_call a.calls b.calls

-- the test decides equality
is_same_active_ask-Decides : (a b : ActiveAsk) → Decides (is_same_active_ask a b) (a ≡ b)
is_same_active_ask-Decides a b = search rules

-- the test decides equality
is_same_line-Decides : (a b : Line) → Decides (is_same_line a b) (a ≡ b)
is_same_line-Decides a b = search rules

-- the test decides equality
is_same_active_call-Decides : (a b : ActiveCall) → Decides (is_same_active_call a b) (a ≡ b)
is_same_active_call-Decides a b = search rules

-- two values are the same if their three lists are
same_parts : (a b : ActiveLists) → a.asks ≡ b.asks → a.lines ≡ b.lines → a.calls ≡ b.calls → a ≡ b
same_parts a b asks lines calls = λ i. record { asks = asks i; lines = lines i; calls = calls i }

-- the test decides equality
pub are_same-Decides : (a b : ActiveLists) → Decides (are_same a b) (a ≡ b)
are_same-Decides a b =
    let asks = pointwise_decides is_same_active_ask-Decides a.asks b.asks in
    let lines = pointwise_decides is_same_line-Decides a.lines b.lines in
    let calls = pointwise_decides is_same_active_call-Decides a.calls b.calls in
    let d = Decides-and _ _ (Decides-and _ _ asks lines) calls in (
      λ h. let e = d.0 h in same_parts a b e.0.0 e.0.1 e.1,
      λ e. d.1 (
        (ap (λ (s : ActiveLists). s.asks) e, ap (λ (s : ActiveLists). s.lines) e),
        ap (λ (s : ActiveLists). s.calls) e,
      ),
    )

-- the test is an equivalence
pub are_same-equivalence : IsEquivalence are_same
are_same-equivalence = decided are_same are_same-Decides
