-- The counts of a term.
use Rattle.std.specs.Prelude.{ℕ, ◌+◌, List, Bool, true, false, count_by, length, max, is_some}
use Rattle.std.specs.List.{list_any}
use Rattle.dmr_pdu.specs.declared.pdu.Pdu.TheVariants.{Random}
use Rattle.dmr_core.specs.declared.event.Event.{Event}
use Rattle.dmr_core.specs.declared.event.Event.TheVariants.{Heard, Noise, Active, Poll, Say}
use Rattle.dmr_core.specs.declared.act.Act.{Act}
use Rattle.dmr_core.specs.declared.act.Act.TheVariants.{Queue, Fill, Joined, Began}
use Rattle.dmr_core.specs.declared.entry.Entry.{Entry}
use Rattle.dmr_core.specs.Sound.{is_grant}
use Rattle.dmr_keeper.specs.declared.counts.TermCounts.{TermCounts}
use Rattle.dmr_keeper.specs.Notes.{occurrence_by_act}
use Rattle.dmr_keeper.specs.Ticks.{ticks_in}

-- a PDU was read
abbrev pub is_heard : Event → Bool
is_heard (Heard slot pdu) = true
is_heard _ = false

-- a request was read, on any slot
abbrev pub is_request : Event → Bool
is_request (Heard slot (Random options flags kind target source)) = true
is_request _ = false

-- a burst came from which no PDU could be read
abbrev pub is_noise : Event → Bool
is_noise (Noise slot) = true
is_noise _ = false

-- there was activity on a slot
abbrev pub is_active : Event → Bool
is_active (Active slot) = true
is_active _ = false

-- a carrier polled
abbrev pub is_poll : Event → Bool
is_poll (Poll carrier) = true
is_poll _ = false

-- an operator sent a command
abbrev pub is_command : Event → Bool
is_command (Say command) = true
is_command _ = false

-- the act queues a grant
abbrev pub is_granting : Act → Bool
is_granting (Queue slot pdu) = is_grant pdu
is_granting _ = false

-- the act sends a late entry: a grant that fills the control slot
abbrev pub is_late_entry : Act → Bool
is_late_entry (Fill slot pdu) = is_grant pdu
is_late_entry _ = false

-- the act registers a radio
abbrev pub is_joined : Act → Bool
is_joined (Joined radio) = true
is_joined _ = false

-- the act begins a call
abbrev pub is_begun : Act → Bool
is_begun (Began call) = true
is_begun _ = false

-- the act is noted: it refuses a request
abbrev pub is_refusing : Act → Bool
is_refusing act = is_some (occurrence_by_act act)

-- the number of entries whose event passes the test
abbrev pub events_that : (Event → Bool) → List Entry → ℕ
events_that test journal = count_by (λ (entry : Entry). test entry.event) journal

-- the number of entries with an act that passes the test
abbrev pub entries_with : (Act → Bool) → List Entry → ℕ
entries_with test journal = count_by (λ (entry : Entry). list_any test entry.acts.list) journal

-- the counts of a journal in which this many calls ended, and this many lines waited at once at most
abbrev pub counts_with : List Entry → ℕ → ℕ → TermCounts
counts_with journal ended most = record {
  entries = length journal;
  heard = events_that is_heard journal;
  requests = events_that is_request journal;
  noise = events_that is_noise journal;
  active = events_that is_active journal;
  polls = events_that is_poll journal;
  ticks = ticks_in journal;
  commands = events_that is_command journal;
  grants = entries_with is_granting journal;
  late_entries = entries_with is_late_entry journal;
  registrations = entries_with is_joined journal;
  refusals = entries_with is_refusing journal;
  begun = entries_with is_begun journal;
  ended = ended;
  most_lines = most;
}

-- the counts of two journals together
abbrev pub counts_joined : TermCounts → TermCounts → TermCounts
counts_joined a b = record {
  entries = a.entries + b.entries;
  heard = a.heard + b.heard;
  requests = a.requests + b.requests;
  noise = a.noise + b.noise;
  active = a.active + b.active;
  polls = a.polls + b.polls;
  ticks = a.ticks + b.ticks;
  commands = a.commands + b.commands;
  grants = a.grants + b.grants;
  late_entries = a.late_entries + b.late_entries;
  registrations = a.registrations + b.registrations;
  refusals = a.refusals + b.refusals;
  begun = a.begun + b.begun;
  ended = a.ended + b.ended;
  most_lines = max a.most_lines b.most_lines;
}
