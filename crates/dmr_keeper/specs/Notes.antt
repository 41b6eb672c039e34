-- Notes: carriers that come up or are lost, radios that join calls, refused requests, and operators' commands that
-- change the site.
use Rattle.std.specs.Prelude.{ℕ, ◌++◌, List, Bool, false, if◌then◌else◌, Option, Some}
use Rattle.std.specs.Prelude.{None, filter_map, find, option_map}
use Rattle.std.specs.Option.{option_and_then, option_to_list}
use Rattle.dmr_plan.specs.declared.settings.Settings.{Settings}
use Rattle.dmr_pdu.specs.declared.pdu.Pdu.{Pdu}
use Rattle.dmr_pdu.specs.declared.pdu.Pdu.TheVariants.{Ackd, Random, TvGrant}
use Rattle.dmr_pdu.specs.Reasons.{refuses}
use Rattle.dmr_core.specs.declared.command.Command.{Command}
use Rattle.dmr_core.specs.declared.reply.Reply.{Reply}
use Rattle.dmr_core.specs.declared.reply.Reply.TheVariants as reply
use Rattle.dmr_core.specs.declared.event.Event.{Event}
use Rattle.dmr_core.specs.declared.event.Event.TheVariants.{Up, Lost, Heard, Say}
use Rattle.dmr_core.specs.declared.act.Act.{Act}
use Rattle.dmr_core.specs.declared.act.Act.TheVariants.{Queue}
use Rattle.dmr_core.specs.declared.act.Acts.{Acts}
use Rattle.dmr_core.specs.declared.entry.Entry.{Entry}
use Rattle.dmr_core.specs.CommandWords.{row_of}
use Rattle.dmr_core.specs.Late.{carrier_on}
use Rattle.dmr_keeper.specs.declared.notes.CommandOutcome.{CommandOutcome}
use Rattle.dmr_keeper.specs.declared.notes.CommandOutcome.TheVariants as outcome
use Rattle.dmr_keeper.specs.declared.notes.Occurrence.{Occurrence}
use Rattle.dmr_keeper.specs.declared.notes.Occurrence.TheVariants.{CameUp, WasLost, JoinedCall}
use Rattle.dmr_keeper.specs.declared.notes.Occurrence.TheVariants.{Refused, Commanded}
use Rattle.dmr_keeper.specs.declared.notes.TimedOccurrence.{TimedOccurrence}
use Rattle.dmr_keeper.specs.Ticks.{told_along}

-- what a command with this result is noted as, if it is one that changes the site
abbrev pub occurrence_of_command : Command → CommandOutcome → Option Occurrence
occurrence_of_command c o = if (row_of c).changes_site then Some (Commanded c o) else None

-- the result of a command that changes the site, by its reply
abbrev pub outcome_of : Reply → Option CommandOutcome
outcome_of reply.Done = Some outcome.Done
outcome_of reply.NotRegistered = Some outcome.NotRegistered
outcome_of reply.Busy = Some outcome.Busy
outcome_of reply.NoCall = Some outcome.NoCall
outcome_of reply.NoCarrier = Some outcome.NoCarrier
outcome_of _ = None

-- what a command with this result is noted as, if the reply states one
abbrev pub occurrence_by_outcome : Command → Option CommandOutcome → Option Occurrence
occurrence_by_outcome c None = None
occurrence_by_outcome c (Some o) = occurrence_of_command c o

-- what a command and its reply are noted as
abbrev pub occurrence_by_command : Command → Option Reply → Option Occurrence
occurrence_by_command c None = None
occurrence_by_command c (Some r) = occurrence_by_outcome c (outcome_of r)

-- the act queues the late grant of a talkgroup call: the call was under way, and the radio that is answered did not
-- begin it. The first grant of a call, and the grant that is repeated to its source, are not late; the late entry of a
-- Fill is not queued
abbrev pub is_late_grant : Act → Bool
is_late_grant (Queue slot (TvGrant channel number late group source)) = late
is_late_grant _ = false

-- what a radio's grant is noted as: it joined the call on the slot that the grant names, whose carrier is that of the
-- channel
abbrev pub occurrence_by_grant : Settings → ℕ → Act → Option Occurrence
occurrence_by_grant plan radio (Queue slot (TvGrant channel number late group source)) =
    option_map (λ (c : ℕ). JoinedCall radio group c number) (carrier_on plan channel)
occurrence_by_grant plan radio _ = None

-- what a request is noted as, if it is answered by a late grant: once, in however many copies that is queued
abbrev pub occurrence_by_request : Settings → Pdu → List Act → Option Occurrence
occurrence_by_request plan (Random options flags kind target source) acts =
    option_and_then (occurrence_by_grant plan source) (find is_late_grant acts)
occurrence_by_request plan _ acts = None

-- what an event and the answer to it are noted as
abbrev pub occurrence_by_event : Settings → Event → Acts → Option Occurrence
occurrence_by_event plan (Up carrier) answer = Some (CameUp carrier)
occurrence_by_event plan (Lost carrier) answer = Some (WasLost carrier)
occurrence_by_event plan (Heard slot pdu) answer = occurrence_by_request plan pdu answer.list
occurrence_by_event plan (Say c) answer = occurrence_by_command c answer.said
occurrence_by_event plan _ answer = None

-- what an act is noted as: the acknowledgement of a refusal, to the source of the request, about its target
abbrev pub occurrence_by_act : Act → Option Occurrence
occurrence_by_act (Queue slot (Ackd info reason spare target additional)) =
    if refuses reason then Some (Refused target additional reason) else None
occurrence_by_act _ = None

-- the note of an occurrence, if there is one
abbrev pub note_if : ℕ → Option Occurrence → Option TimedOccurrence
note_if tick None = None
note_if tick (Some what) = Some (record { tick = tick; what = what })

-- the note of an act
abbrev pub note_by_act : ℕ → Act → Option TimedOccurrence
note_by_act tick act = note_if tick (occurrence_by_act act)

-- the notes of an entry: that of its event, then those of its acts
abbrev pub notes_in_entry : Settings → ℕ → Entry → List TimedOccurrence
notes_in_entry plan tick entry =
    option_to_list (note_if tick (occurrence_by_event plan entry.event entry.acts))
    ++ filter_map (note_by_act tick) entry.acts.list

-- the notes of a journal, from the ticks before it
abbrev pub notes_in : Settings → ℕ → List Entry → List TimedOccurrence
notes_in plan ticks journal = told_along (notes_in_entry plan) ticks journal
