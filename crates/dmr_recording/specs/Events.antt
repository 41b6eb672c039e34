-- The inputs that mean an event, from carriers that speak version 1 of the link.
use Rattle.std.specs.Prelude.{ℕ, ◌+◌, ◌==◌, nat_lt, not, Bool, true, false, List, [], ◌∷◌, ◌++◌}
use Rattle.std.specs.Prelude.{None, replicate, map, if◌then◌else◌}
use Rattle.std.specs.Option.{option_map_or}
use Rattle.dmr_plan.specs.declared.settings.Settings.{Settings}
use Rattle.dmr_plan.specs.declared.carriers.CarrierRow.{CarrierRow}
use Rattle.dmr_plan.specs.Carriers.{row_with}
use Rattle.dmr_burst.specs.Functions.{burst_of}
use Rattle.dmr_core.specs.CommandWords.{command_text}
use Rattle.dmr_core.specs.declared.entry.Entry.{Entry}
use Rattle.dmr_core.specs.declared.event.Event.{Event}
use Rattle.dmr_core.specs.declared.event.Event.TheVariants as event
use Rattle.dmr_frames.specs.declared.frame.FrameIn.{FrameIn}
use Rattle.dmr_frames.specs.declared.frame.FrameIn.TheVariants as frame
use Rattle.dmr_frames.specs.declared.version.Version.TheVariants.{V1}
use Rattle.dmr_frames.specs.Frames.{spelling}
use Rattle.dmr_link.specs.Input.{At, Opening, Octets, Cutting, Saying, Ticking}
use Rattle.dmr_link.specs.Notices.{Notice, Accepted, Happened}
use Rattle.dmr_replay.specs.Script.{RepeatedInput, once}

-- ---- one event

-- a carrier's channel in the plan
abbrev pub lpcn_of : Settings → ℕ → ℕ
lpcn_of plan carrier =
    option_map_or (λ (row : CarrierRow). row.lpcn) (row_with plan.lists.carriers carrier) 0

-- the HELLO of a carrier of the plan, in version 1
abbrev pub hello_of : Settings → ℕ → FrameIn
hello_of plan carrier = frame.Hello 1 carrier (lpcn_of plan carrier)

-- a word that means no PDU: each bit is 0, and the check of ten octets 0 is not 0
abbrev pub noise_word : List Bool
noise_word = replicate 196 false

-- a frame arrives from a carrier
abbrev pub frame_from : ℕ → FrameIn → List RepeatedInput
frame_from carrier f = once (At carrier (Octets (spelling f))) ∷ []

-- the inputs that mean an event
abbrev pub inputs_of_event : Settings → Event → List RepeatedInput
inputs_of_event plan (event.Up c) = once (At c Opening) ∷ frame_from c (hello_of plan c)
inputs_of_event plan (event.Lost c) = once (At c Cutting) ∷ []
inputs_of_event plan (event.Heard slot pdu) =
    frame_from slot.carrier (frame.Rx None slot.slot (burst_of pdu))
inputs_of_event plan (event.Noise slot) =
    frame_from slot.carrier (frame.Rx None slot.slot noise_word)
inputs_of_event plan (event.Active slot) = frame_from slot.carrier (frame.Active slot.slot)
inputs_of_event plan (event.Poll c) = frame_from c frame.Poll
inputs_of_event plan event.Tick = once Ticking ∷ []
inputs_of_event plan (event.Say command) = once (Saying (command_text command ++ 10 ∷ [])) ∷ []

-- ---- events, one after another

-- ticks together; none if there are none
abbrev pub ticks_together : ℕ → List RepeatedInput
ticks_together n = if n == 0 then [] else record { input = Ticking; times = n } ∷ []

-- whether an event is a tick
abbrev pub is_tick : Event → Bool
is_tick event.Tick = true
is_tick other = false

-- the inputs of events that `n` ticks precede. Up to 100000 ticks in a row are one line
abbrev pub inputs_after_ticks : Settings → ℕ → List Event → List RepeatedInput
inputs_after_ticks plan n [] = ticks_together n
inputs_after_ticks plan n (e ∷ es) =
    if not (is_tick e)
    then ticks_together n ++ inputs_of_event plan e ++ inputs_after_ticks plan 0 es else
    if nat_lt n 100000 then inputs_after_ticks plan (n + 1) es
    else ticks_together n ++ inputs_after_ticks plan 1 es

-- the inputs of events
abbrev pub inputs_of_events : Settings → List Event → List RepeatedInput
inputs_of_events plan events = inputs_after_ticks plan 0 events

-- the events of a journal
abbrev pub events_of : List Entry → List Event
events_of journal = map (λ (entry : Entry). entry.event) journal

-- the notice of an event: an Up is an accepted HELLO of version 1
abbrev pub notice_of_event : Event → Notice
notice_of_event (event.Up c) = Accepted c V1
notice_of_event other = Happened other
