-- The radios that asks, lines and calls engage.
use Rattle.std.specs.Prelude.{ℕ, List, Bool, false, not, ◌==◌, ◌&&◌, ◌||◌, find, Option, option_map}
use Rattle.std.specs.List.{list_any}
use Rattle.std.specs.Option.{option_or}
use Rattle.dmr_calls.specs.declared.ask.Ask.{Ask}
use Rattle.dmr_calls.specs.declared.ask.ActiveAsk.{ActiveAsk}
use Rattle.dmr_calls.specs.declared.line.Line.{Line}
use Rattle.dmr_calls.specs.declared.call.Call.{Call}
use Rattle.dmr_calls.specs.declared.call.ActiveCall.{ActiveCall}
use Rattle.dmr_calls.specs.declared.answer.Engagement.{Engagement}
use Rattle.dmr_calls.specs.declared.answer.Engagement.TheVariants.{CallOf, AskOf, LineOf}
use Rattle.dmr_calls.specs.ActiveLists.{ActiveLists}

-- a radio is a party: the source, or the target of something individual
abbrev pub is_party : ℕ → Bool → ℕ → ℕ → Bool
is_party radio group source target = (source == radio) || (not group && (target == radio))

-- a radio is a party to the call
abbrev pub is_party_to_call : ℕ → ActiveCall → Bool
is_party_to_call radio s = is_party radio s.call.group s.call.source s.call.target

-- a radio is a party to the ask, which is always individual
abbrev pub is_party_to_ask : ℕ → ActiveAsk → Bool
is_party_to_ask radio a = is_party radio false a.ask.source a.ask.target

-- a radio is a party to the line
abbrev pub is_party_to_line : ℕ → Line → Bool
is_party_to_line radio l = is_party radio l.group l.source l.target

-- the first call to which a radio is a party
abbrev pub call_of : List ActiveCall → ℕ → Option Call
call_of calls radio = option_map (λ (s : ActiveCall). s.call) (find (is_party_to_call radio) calls)

-- the first ask to which a radio is a party
abbrev pub ask_with : List ActiveAsk → ℕ → Option Ask
ask_with asks radio = option_map (λ (a : ActiveAsk). a.ask) (find (is_party_to_ask radio) asks)

-- the first line to which a radio is a party
abbrev pub line_with : List Line → ℕ → Option Line
line_with lines radio = find (is_party_to_line radio) lines

-- the first call, or else the first ask, or else the first line to which a radio is a party
abbrev pub engagement_of : ActiveLists → ℕ → Option Engagement
engagement_of now radio =
    option_or (option_map CallOf (call_of now.calls radio))
    (option_or (option_map AskOf (ask_with now.asks radio))
    (option_map LineOf (line_with now.lines radio)))

-- a radio is a party to a call, an ask or a line
abbrev pub is_engaged : ActiveLists → ℕ → Bool
is_engaged now radio =
    list_any (is_party_to_call radio) now.calls || list_any (is_party_to_ask radio) now.asks
    || list_any (is_party_to_line radio) now.lines
