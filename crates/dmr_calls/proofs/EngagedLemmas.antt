-- A radio is engaged exactly if it is a party to a call, an ask or a line.
use Rattle.std.proofs.Common.{◌≡◌, ℕ, refl, ◌∙◌}
use Rattle.std.specs.Prelude.{◌||◌, Option, Some, None, find, is_some, option_map}
use Rattle.std.specs.List.{list_any}
use Rattle.std.specs.Option.{option_or}
use Rattle.dmr_calls.specs.declared.ask.ActiveAsk.{ActiveAsk}
use Rattle.dmr_calls.specs.declared.call.ActiveCall.{ActiveCall}
use Rattle.dmr_calls.specs.declared.answer.Engagement.TheVariants.{CallOf, AskOf, LineOf}
use Rattle.dmr_calls.specs.ActiveLists.{ActiveLists}
use Rattle.dmr_calls.specs.Engaged.{is_party_to_call, is_party_to_ask, is_party_to_line, call_of, ask_with, line_with, engagement_of}
use Rattle.dmr_calls.specs.Engaged.{is_engaged}
use Rattle.dmr_pdu.proofs.ListLaws.{is_some-find}

-- an element is found exactly if it is found in another form
some_mapped : {X Y : Type 0} (f : X → Y) (o : Option X) → is_some (option_map f o) ≡ is_some o
some_mapped f None = refl
some_mapped f (Some x) = refl

-- the first of three, if there is any
some_of_three : {X : Type 0} (a b c : Option X) → is_some (option_or a (option_or b c)) ≡ ((is_some a || is_some b) || is_some c)
some_of_three (Some x) b c = refl
some_of_three None (Some y) c = refl
some_of_three None None c = refl

-- something engages a radio exactly if it is a party to something
pub some_engaged : (now : ActiveLists) (radio : ℕ) → is_some (engagement_of now radio) ≡ is_engaged now radio
some_engaged now radio =
    let calls = find (is_party_to_call radio) now.calls in
    let asks = find (is_party_to_ask radio) now.asks in
    let call : is_some (option_map CallOf (call_of now.calls radio)) ≡ list_any (is_party_to_call radio) now.calls =
    some_mapped CallOf (call_of now.calls radio) ∙ some_mapped (λ (s : ActiveCall). s.call) calls
    ∙ is_some-find (is_party_to_call radio) now.calls in
    let ask : is_some (option_map AskOf (ask_with now.asks radio)) ≡ list_any (is_party_to_ask radio) now.asks =
    some_mapped AskOf (ask_with now.asks radio) ∙ some_mapped (λ (a : ActiveAsk). a.ask) asks
    ∙ is_some-find (is_party_to_ask radio) now.asks in
    let line : is_some (option_map LineOf (line_with now.lines radio)) ≡ list_any (is_party_to_line radio) now.lines =
    some_mapped LineOf (line_with now.lines radio) ∙ is_some-find (is_party_to_line radio) now.lines in
    some_of_three (option_map CallOf (call_of now.calls radio)) (option_map AskOf (ask_with now.asks radio))
    (option_map LineOf (line_with now.lines radio)) ∙ cc (call, ask, line)
