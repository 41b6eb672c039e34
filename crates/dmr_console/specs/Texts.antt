-- The texts of replies.
use Rattle.std.specs.Prelude.{ℕ, Bool, true, false, List, ◌++◌, Option, Some, None, codes, decimal}
use Rattle.std.specs.List.{flat_map, enumerate_from}
use Rattle.dmr_pdu.specs.declared.slots.Slot.{Slot}
use Rattle.dmr_calls.specs.declared.call.Call.{Call}
use Rattle.dmr_calls.specs.declared.line.Line.{Line}
use Rattle.dmr_core.specs.declared.reply.SlotState.{SlotState}
use Rattle.dmr_core.specs.declared.reply.State.{State}
use Rattle.dmr_core.specs.declared.reply.State.TheVariants as state
use Rattle.dmr_core.specs.declared.reply.Reply.{Reply}
use Rattle.dmr_core.specs.declared.reply.Reply.TheVariants.{Status, Radios, Calls, Lines, Slots}
use Rattle.dmr_core.specs.declared.reply.Reply.TheVariants.{Done, NotRegistered, Busy, NoCall}
use Rattle.dmr_core.specs.declared.reply.Reply.TheVariants.{NoCarrier}

-- ---- rows, each with its LF

-- the kind of Fill that the control slot has
abbrev pub fill_text : Option ℕ → List ℕ
fill_text None = codes "aloha"
fill_text (Some channel) = codes "move " ++ decimal channel

-- the row of a radio
abbrev pub radio_row : ℕ → List ℕ
radio_row radio = codes "radio " ++ decimal radio ++ codes "\n"

-- a carrier's number and a slot, as `C S`
abbrev pub slot_text : Slot → List ℕ
slot_text slot = decimal slot.carrier ++ codes " " ++ decimal slot.slot

-- `group G` or `radio T`
abbrev pub target_text : Bool → ℕ → List ℕ
target_text true target = codes "group " ++ decimal target
target_text false target = codes "radio " ++ decimal target

-- `group G from R` or `radio T from R`
abbrev pub parties_text : Bool → ℕ → ℕ → List ℕ
parties_text group target source = target_text group target ++ codes " from " ++ decimal source

-- the row of a call
abbrev pub call_row : Call → List ℕ
call_row call =
    codes "call " ++ slot_text call.slot ++ codes " "
    ++ parties_text call.group call.target call.source ++ codes "\n"

-- the row of a line, with its place
abbrev pub line_row : ℕ × Line → List ℕ
line_row row =
    codes "line " ++ decimal row.0 ++ codes " "
    ++ parties_text row.1.group row.1.target row.1.source ++ codes "\n"

-- the name of a slot's state
abbrev pub state_text : State → List ℕ
state_text state.Control = codes "control"
state_text state.Down = codes "down"
state_text state.Call = codes "call"
state_text state.Free = codes "free"
state_text state.Waiting = codes "waiting"

-- the row of a slot and its state
abbrev pub slot_row : SlotState → List ℕ
slot_row row =
    codes "slot " ++ slot_text row.slot ++ codes " " ++ state_text row.state ++ codes "\n"

-- ---- replies

-- rows, and the line that ends them
abbrev pub rows_text : {A : Type 0} → (A → List ℕ) → List A → List ℕ
rows_text row rows = flat_map row rows ++ codes "end\n"

-- the text of a reply
abbrev pub text_of_reply : Reply → List ℕ
text_of_reply (Status carriers radios asks lines calls moving) =
    codes "status carriers " ++ decimal carriers ++ codes " radios " ++ decimal radios
    ++ codes " asks " ++ decimal asks ++ codes " lines " ++ decimal lines ++ codes " calls "
    ++ decimal calls ++ codes " fill " ++ fill_text moving ++ codes "\n"
text_of_reply (Radios radios) = rows_text radio_row radios
text_of_reply (Calls calls) = rows_text call_row calls
text_of_reply (Lines from rows) = rows_text line_row (enumerate_from from rows)
text_of_reply (Slots rows) = rows_text slot_row rows
text_of_reply Done = codes "ok\n"
text_of_reply NotRegistered = codes "error not registered\n"
text_of_reply Busy = codes "error busy\n"
text_of_reply NoCall = codes "error no call\n"
text_of_reply NoCarrier = codes "error no carrier\n"
