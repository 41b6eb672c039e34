-- Asks: a list in the order of their last C_AHOY, oldest first.
use Rattle.std.specs.Prelude.{ℕ, List, [], ◌∷◌, ◌++◌, Bool, not, ◌==◌, ◌≢◌, ◌&&◌, nat_le, length}
use Rattle.std.specs.Prelude.{filter, find, Option, option_map, if◌then◌else◌}
use Rattle.std.specs.List.{list_any, AllPairs}
use Rattle.std.specs.Option.{option_map_or}
use Rattle.dmr_calls.specs.declared.ask.Ask.{Ask}
use Rattle.dmr_calls.specs.declared.ask.ActiveAsk.{ActiveAsk}
use Rattle.dmr_calls.specs.Limits.{most_asks}
use Rattle.dmr_calls.specs.Ticks.{one_more}

-- no radio has two asks
abbrev pub HaveOwnSources : List ActiveAsk → Type 0
HaveOwnSources asks = AllPairs (λ a b. a.ask.source ≢ b.ask.source) asks

-- an ask whose C_AHOY was queued just now
abbrev pub new_active_ask : Ask → ActiveAsk
new_active_ask ask = record { ask = ask; waited = 0 }

-- an ask after one more tick
abbrev pub ask_after_tick : ActiveAsk → ActiveAsk
ask_after_tick a = record { ask = a.ask; waited = one_more a.waited }

-- the asks of other sources
abbrev pub others_than : ℕ → List ActiveAsk → List ActiveAsk
others_than source asks = filter (λ a. not (a.ask.source == source)) asks

-- there is no place for an ask of this source: 32 of other sources are active
abbrev pub has_no_place : List ActiveAsk → ℕ → Bool
has_no_place asks source = nat_le most_asks (length (others_than source asks))

-- the asks with one more, if there is a place: it is added at the end, and replaces the one of its source
abbrev pub with_ask : List ActiveAsk → Ask → List ActiveAsk
with_ask asks ask =
    if has_no_place asks ask.source then asks
    else others_than ask.source asks ++ new_active_ask ask ∷ []

-- the ask of a radio, which has at most one
abbrev pub ask_of : List ActiveAsk → ℕ → Option Ask
ask_of asks source = option_map (λ (a : ActiveAsk). a.ask) (find (λ a. a.ask.source == source) asks)

-- the first ask to a radio
abbrev pub ask_to : List ActiveAsk → ℕ → Option Ask
ask_to asks target = option_map (λ (a : ActiveAsk). a.ask) (find (λ a. a.ask.target == target) asks)

-- the source has an ask to the target
abbrev pub has_own_ask : List ActiveAsk → ℕ → ℕ → Bool
has_own_ask asks source target =
    list_any (λ a. (a.ask.source == source) && (a.ask.target == target)) asks

-- the asks after an answer of the target: the first ask to it is removed, with all of the same source
abbrev pub without_ask_to : List ActiveAsk → ℕ → List ActiveAsk
without_ask_to asks target =
    option_map_or (λ ask. others_than ask.source asks) (ask_to asks target) asks
