-- The answer to each event.
use Rattle.std.specs.Prelude.{ℕ, ◌+◌, ◌-◌, ◌/◌, ◌%◌, ◌^◌, List, [], ◌∷◌, ◌++◌, Bool, true, false}
use Rattle.std.specs.Prelude.{not, if◌then◌else◌, ◌==◌, ◌&&◌, ◌||◌, nat_lt, nat_le, length, filter}
use Rattle.std.specs.Prelude.{replicate, Option, Some, None, is_some, option_map}
use Rattle.std.specs.Option.{option_map_or}
use Rattle.dmr_pdu.specs.declared.slots.Slot.{Slot}
use Rattle.dmr_pdu.specs.declared.pdu.Pdu.{Pdu}
use Rattle.dmr_pdu.specs.declared.pdu.Pdu.TheVariants.{Ahoy, Random, Ackd, Acku, Clear, PvGrant}
use Rattle.dmr_pdu.specs.declared.pdu.Pdu.TheVariants.{TvGrant}
use Rattle.dmr_pdu.specs.Kinds.{registration as registration_kind, cancel as cancel_kind}
use Rattle.dmr_pdu.specs.Kinds.{individual_voice, talkgroup_voice}
use Rattle.dmr_pdu.specs.Reasons.{not_supported, perm_user_refused, transient_sys_refused}
use Rattle.dmr_pdu.specs.Reasons.{noreg_ms_away, sysbusy_refused, call_cancel_refused, reg_refused}
use Rattle.dmr_pdu.specs.Reasons.{reg_denied, ms_not_registered, called_party_busy}
use Rattle.dmr_pdu.specs.Reasons.{group_not_allowed, ms_accepted, message_accepted, reg_accepted}
use Rattle.dmr_pdu.specs.Reasons.{queued_for_resource, wait}
use Rattle.dmr_plan.specs.declared.settings.Settings.{Settings}
use Rattle.dmr_plan.specs.Plan.{lists_radio, lists_group}
use Rattle.dmr_registry.specs.Limits.{most_radios}
use Rattle.dmr_registry.specs.Least.{least_from}
use Rattle.dmr_access.specs.Fill.{fill_of, is_late_due, window_of}
use Rattle.dmr_calls.specs.declared.ask.Ask.{Ask}
use Rattle.dmr_calls.specs.declared.line.Line.{Line}
use Rattle.dmr_calls.specs.declared.call.Call.{Call}
use Rattle.dmr_calls.specs.declared.call.ActiveCall.{ActiveCall}
use Rattle.dmr_calls.specs.Limits.{most_asks, most_lines}
use Rattle.dmr_calls.specs.Asks.{ask_of, ask_to, has_own_ask}
use Rattle.dmr_calls.specs.Lines.{first_line, page_of_lines, line_of, line_to, has_group_line}
use Rattle.dmr_calls.specs.Lines.{has_own_group_line, has_own_line}
use Rattle.dmr_calls.specs.Calls.{call_on, group_call, own_group_call, own_call}
use Rattle.dmr_calls.specs.Engaged.{call_of}
use Rattle.dmr_calls.specs.Due.{due_call, due_ask}
use Rattle.dmr_pool.specs.Free.{control_slot, is_control}
use Rattle.dmr_core.specs.declared.request.Request.{Request}
use Rattle.dmr_core.specs.declared.event.Event.{Event}
use Rattle.dmr_core.specs.declared.event.Event.TheVariants.{Heard, Poll, Tick, Say}
use Rattle.dmr_core.specs.declared.command.Command.{Command}
use Rattle.dmr_core.specs.declared.command.Command.TheVariants as command
use Rattle.dmr_core.specs.declared.reply.Reply.{Reply}
use Rattle.dmr_core.specs.declared.reply.Reply.TheVariants as reply
use Rattle.dmr_core.specs.declared.act.Act.{Act}
use Rattle.dmr_core.specs.declared.act.Acts.{Acts}
use Rattle.dmr_core.specs.declared.act.Act.TheVariants.{Queue, Send, Fill, Joined, Left, Asked}
use Rattle.dmr_core.specs.declared.act.Act.TheVariants.{AskOver, Lined, Unlined, Began, Ended}
use Rattle.dmr_core.specs.Facts.{Facts, asks_by_event, calls_by_event, has_carrier}
use Rattle.dmr_core.specs.Late.{next_call}
use Rattle.dmr_core.specs.Displays.{all_slot_states, calls_on_carrier}
use Rattle.dmr_core.specs.Words.{is_up, outbox, lpcn_of, lowest_free, slot_for_new_call, has_room}
use Rattle.dmr_core.specs.Words.{is_registered, is_engaged}

-- C_ACKD to the source, with this reason, that names the target
abbrev pub ack : Settings → ℕ → ℕ → ℕ → List Act
ack plan source target reason =
    Queue (control_slot plan.lists) (Ackd 0 reason false source target) ∷ []

-- the grant of a call: TV_GRANT to a talkgroup, else PV_GRANT
abbrev pub grant_pdu : Settings → Call → Bool → Pdu
grant_pdu plan call late =
    if call.group
    then TvGrant (lpcn_of plan call.slot.carrier) call.slot.slot late call.target call.source
    else PvGrant (lpcn_of plan call.slot.carrier) call.slot.slot call.target call.source

-- the grant in as many copies as the plan's `grant_copies`
unfoldable pub grant : Settings → Call → Bool → List Act
grant plan call late =
    replicate plan.calls.grant_copies (Queue (control_slot plan.lists) (grant_pdu plan call late))

-- a call ends, and P_CLEAR is queued on its slot in as many copies as the plan's `clear_copies`
unfoldable pub clear : Settings → Call → List Act
clear plan call =
    Ended call.slot ∷ replicate plan.calls.clear_copies (Queue call.slot
    (Clear (lpcn_of plan plan.lists.control) call.group call.target plan.system.tsi))

-- the call that a line becomes on a slot
abbrev pub call_of_line : Line → Slot → Call
call_of_line line slot =
    record { slot = slot; source = line.source; target = line.target; group = line.group }

-- a call begins, and its grant is queued
abbrev pub begin : Settings → Call → List Act
begin plan call = Began call ∷ grant plan call false

-- option bit k of seven, bit 0 the last
abbrev pub option_bit : ℕ → ℕ → Bool
option_bit options k = nat_lt k 7 && (((options / 2 ^ k) % 2) == 1)

-- a registration request leaves if the plan names an option bit and that bit is 0
unfoldable pub is_leaving : Settings → ℕ → Bool
is_leaving plan options =
    option_map_or (λ k. not (option_bit options k)) plan.system.leave_bit false

-- the first call, ask or line that engages a radio ends: as its source, or as the target of an individual one. If the
-- radio is the target of the ask or line, its source gets NoReg_MS_Away
unfoldable pub close : Settings → Facts → ℕ → List Act
close plan now r =
    option_map_or (λ (call : Call). clear plan call) (call_of now.calls r)
    (option_map_or (λ (ask : Ask). AskOver ask.source ∷ []) (ask_of now.asks r)
    (option_map_or (λ (ask : Ask). AskOver ask.source
    ∷ ack plan ask.source ask.target noreg_ms_away) (ask_to now.asks r)
    (option_map_or (λ (line : Line). Unlined line.source ∷ []) (line_of now.lines r)
    (option_map_or (λ (line : Line). Unlined line.source
    ∷ ack plan line.source line.target noreg_ms_away) (line_to now.lines r)
    []))))

-- the acts for a radio that leaves: what engages it ends, then its registration, if there is one, and it gets an
-- acknowledgement
unfoldable pub acts_for_leaving : Settings → Facts → Request → List Act
acts_for_leaving plan now q =
    close plan now q.source ++ (if is_registered now q.source then Left q.source ∷ [] else [])
    ++ ack plan q.source q.target message_accepted

-- the acts for a registration request: the radio leaves, or is registered if it is listed and there is a place
unfoldable pub acts_for_registration : Settings → Facts → Request → List Act
acts_for_registration plan now q =
    if is_leaving plan q.options then acts_for_leaving plan now q else
    if not (lists_radio plan q.source) then ack plan q.source q.target reg_denied else
    if is_registered now q.source then ack plan q.source q.target reg_accepted else
    if nat_le most_radios (length now.registered) then ack plan q.source q.target reg_refused else
    (Joined q.source ∷ ack plan q.source q.target reg_accepted)

-- begins the call if a slot is free and there is no line; otherwise adds the line, or refuses it if there are 32
unfoldable pub acts_for_new_call : Settings → Facts → Line → List Act
acts_for_new_call plan now line =
    option_map_or (λ (slot : Slot). begin plan (call_of_line line slot))
    (slot_for_new_call plan now)
    (if nat_lt (length now.lines) most_lines
    then Lined line ∷ ack plan line.source line.target queued_for_resource
    else ack plan line.source line.target sysbusy_refused)

-- the acts for a talkgroup request, by the first row that applies
unfoldable pub acts_for_talkgroup_request : Settings → Facts → Request → List Act
acts_for_talkgroup_request plan now q =
    if not (lists_group plan q.target) then ack plan q.source q.target group_not_allowed else
    option_map_or (λ (call : Call). grant plan call false)
    (own_group_call now.calls q.source q.target)
    (if has_own_group_line now.lines q.source q.target
    then ack plan q.source q.target queued_for_resource else
    if is_engaged now q.source then ack plan q.source q.target transient_sys_refused else
    option_map_or (λ (call : Call). grant plan call true) (group_call now.calls q.target)
    (if has_group_line now.lines q.target then ack plan q.source q.target queued_for_resource else
    acts_for_new_call plan now (record { source = q.source; target = q.target; group = true })))

-- C_AHOY to the target of an ask
abbrev pub ahoy : Settings → Ask → List Act
ahoy plan ask =
    Queue (control_slot plan.lists)
    (Ahoy ask.options false individual_voice ask.target ask.source) ∷ []

-- the acts for an individual request, by the first row that applies
unfoldable pub acts_for_individual_request : Settings → Facts → Request → List Act
acts_for_individual_request plan now q =
    if (q.target == q.source) || not (lists_radio plan q.target)
    then ack plan q.source q.target perm_user_refused else
    option_map_or (λ (call : Call). grant plan call false) (own_call now.calls q.source q.target)
    (if has_own_ask now.asks q.source q.target then ack plan q.source q.target wait else
    if has_own_line now.lines q.source q.target
    then ack plan q.source q.target queued_for_resource else
    if is_engaged now q.source then ack plan q.source q.target transient_sys_refused else
    if not (is_registered now q.target) then ack plan q.source q.target noreg_ms_away else
    if is_engaged now q.target then ack plan q.source q.target called_party_busy else
    if nat_lt (length now.asks) most_asks
    then Asked (record { source = q.source; target = q.target; options = q.options; attempt = 1 })
    ∷ ack plan q.source q.target wait
    ++ ahoy plan (record { source = q.source; target = q.target; options = q.options; attempt = 1 })
    else ack plan q.source q.target sysbusy_refused)

-- the acts for the acknowledgement of a called radio
unfoldable pub acts_for_called_radio : Settings → Facts → ℕ → ℕ → List Act
acts_for_called_radio plan now reason called =
    option_map_or (λ (ask : Ask). AskOver ask.source
    ∷ (if reason == ms_accepted then acts_for_new_call plan now
    (record { source = ask.source; target = ask.target; group = false })
    else ack plan ask.source ask.target called_party_busy))
    (ask_to now.asks called) []

-- the acts for a request that cancels another
unfoldable pub acts_for_cancel : Settings → Facts → Request → List Act
acts_for_cancel plan now q =
    option_map_or (λ (ask : Ask). AskOver ask.source ∷ ack plan q.source q.target message_accepted)
    (ask_of now.asks q.source)
    (option_map_or (λ (line : Line). Unlined line.source
    ∷ ack plan q.source q.target message_accepted) (line_of now.lines q.source)
    (ack plan q.source q.target call_cancel_refused))

-- the acts for a request on the control slot, with room
unfoldable pub acts_for_request : Settings → Facts → Request → ℕ → ℕ → List Act
acts_for_request plan now q flags kind =
    if not (flags == 0) then ack plan q.source q.target not_supported else
    if kind == registration_kind then acts_for_registration plan now q else
    if not (kind == talkgroup_voice)
    && (not (kind == individual_voice) && not (kind == cancel_kind))
    then ack plan q.source q.target not_supported else
    if not (is_registered now q.source) then ack plan q.source q.target ms_not_registered else
    if kind == cancel_kind then acts_for_cancel plan now q else
    if kind == talkgroup_voice then acts_for_talkgroup_request plan now q
    else acts_for_individual_request plan now q

-- the acts for a PDU on the control slot, with room: only C_RAND and C_ACKU have any
unfoldable pub acts_for_pdu : Settings → Facts → Pdu → List Act
acts_for_pdu plan now (Random options flags kind target source) =
    acts_for_request plan now
    (record { options = options; source = source; target = target }) flags kind
acts_for_pdu plan now (Acku info reason spare target additional) =
    acts_for_called_radio plan now reason additional
acts_for_pdu plan now _ = []

-- a line, if there is one, becomes a call, if a slot is free
unfoldable pub acts_for_line : Settings → Facts → Option Line → List Act
acts_for_line plan now first =
    option_map_or (λ (line : Line). option_map_or (λ (slot : Slot). Unlined line.source
    ∷ begin plan (call_of_line line slot)) (lowest_free plan now)
    [])
    first []

-- an ask that is due is repeated, or removed after the plan's last try, and its source gets NoReg_MS_Away
unfoldable pub acts_for_due_ask : Settings → Option Ask → List Act
acts_for_due_ask plan due =
    option_map_or (λ (ask : Ask).
    if nat_lt ask.attempt plan.calls.ahoy_tries
    then Asked (record {
      source = ask.source;
      target = ask.target;
      options = ask.options;
      attempt = ask.attempt + 1;
    }) ∷ ahoy plan ask
    else AskOver ask.source ∷ ack plan ask.source ask.target noreg_ms_away)
    due []

-- the call on a slot that is due is cleared
unfoldable pub acts_for_due_call : Settings → List ActiveCall → Option Slot → List Act
acts_for_due_call plan calls due =
    option_map_or
    (λ (slot : Slot). option_map_or (λ (call : Call). clear plan call) (call_on calls slot) []) due
    []

-- the acts for a Tick, which has been counted: the first call that is over is cleared. If there is room, the ask whose
-- last C_AHOY was queued first is answered, if it is due, and the first line is served
unfoldable pub acts_for_tick : Settings → Facts → List Act
acts_for_tick plan now =
    acts_for_due_call plan now.calls (due_call plan.calls.hang plan.calls.maximum now.calls)
    ++ (if has_room plan now
    then acts_for_due_ask plan (due_ask plan.calls.ahoy_wait now.asks)
    ++ acts_for_line plan now (first_line now.lines)
    else [])

-- the late entry of the next Fill: the grant of the next talkgroup call. There is one if it is due, the control channel
-- is not to be moved, and a talkgroup call is active.
unfoldable pub late_entry : Settings → Facts → Option Pdu
late_entry plan now =
    if is_late_due now.fills && not (is_some now.moving)
    then option_map (λ (call : Call). grant_pdu plan call true) (next_call plan now)
    else None

-- the next Fill of the control slot
abbrev pub next_fill : Settings → Facts → Pdu
next_fill plan now =
    fill_of (window_of plan now.noise now.fills) now.moving (late_entry plan now)

-- the first PDU that waits for a slot is sent; if none waits and the slot is the control slot, it is filled
abbrev pub acts_for_outbox : Settings → Facts → Slot → List Pdu → List Act
acts_for_outbox plan now slot [] =
    if is_control plan.lists slot then Fill slot (next_fill plan now) ∷ [] else []
acts_for_outbox plan now slot (pdu ∷ pdus) = Send slot pdu ∷ []

-- the acts for a slot of a carrier that polls
unfoldable pub acts_for_slot : Settings → Facts → Slot → List Act
acts_for_slot plan now slot = acts_for_outbox plan now slot (outbox now slot)

-- the answer to a command that has no acts
abbrev pub reply_alone : Reply → Acts
reply_alone reply = record { list = []; said = Some reply }

-- the answer to a command that is done by these acts
abbrev pub acts_and_done : List Act → Acts
acts_and_done acts = record { list = acts; said = Some reply.Done }

-- the answer to `drop`: if the radio is registered and there is room, the call, ask or line that engages it ends, then
-- its registration
abbrev pub drop_radio : Settings → Facts → ℕ → Acts
drop_radio plan now r =
    if not (is_registered now r) then reply_alone reply.NotRegistered else
    if not (has_room plan now) then reply_alone reply.Busy else
    acts_and_done (close plan now r ++ Left r ∷ [])

-- the answer to `end`: the call on a slot ends, if the plan has the carrier and a call is active there
abbrev pub end_call : Settings → Facts → Slot → Acts
end_call plan now slot =
    if not (has_carrier plan slot.carrier) then reply_alone reply.NoCarrier else
    option_map_or (λ (call : Call). acts_and_done (clear plan call)) (call_on now.calls slot)
    (reply_alone reply.NoCall)

-- the answer to an operator's command: acts and reply
unfoldable pub answer_to_command : Settings → Facts → Command → Acts
answer_to_command plan now command.Status =
    reply_alone (reply.Status (length (filter (λ up. up) now.up)) (length now.registered)
    (length now.asks) (length now.lines) (length now.calls) now.moving)
answer_to_command plan now (command.Radios from) =
    reply_alone (reply.Radios (least_from now.registered from))
answer_to_command plan now (command.Calls c) =
    reply_alone (if has_carrier plan c then reply.Calls (calls_on_carrier now.calls c)
    else reply.NoCarrier)
answer_to_command plan now (command.Lines from) =
    reply_alone (reply.Lines from (page_of_lines now.lines (from - 1)))
answer_to_command plan now command.Slots = reply_alone (reply.Slots (all_slot_states plan now))
answer_to_command plan now (command.Drop r) = drop_radio plan now r
answer_to_command plan now (command.End c s) = end_call plan now (record { carrier = c; slot = s })
answer_to_command plan now (command.Move lpcn) = acts_and_done []
answer_to_command plan now command.Stay = acts_and_done []

-- the acts that answer an event, from the facts before it; a Tick is counted first
abbrev pub acts_of : Settings → Facts → Event → List Act
acts_of plan now (Heard slot pdu) =
    if is_up now slot.carrier && (is_control plan.lists slot && has_room plan now)
    then acts_for_pdu plan now pdu
    else []
acts_of plan now (Poll c) =
    if is_up now c
    then acts_for_slot plan now (record { carrier = c; slot = 0 })
    ++ acts_for_slot plan now (record { carrier = c; slot = 1 })
    else []
acts_of plan now Tick =
    acts_for_tick plan
    (record now { calls = calls_by_event now.calls Tick; asks = asks_by_event plan now.asks Tick })
acts_of plan now (Say command) = (answer_to_command plan now command).list
acts_of plan now _ = []
