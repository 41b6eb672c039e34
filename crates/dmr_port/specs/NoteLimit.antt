-- The number of notes of a kind in a minute.
use Rattle.std.specs.Prelude.{ℕ, ◌+◌, ◌-◌, ◌^◌, ◌==◌, min, nat_lt, Bool, if◌then◌else◌}
use Rattle.dmr_port.specs.declared.note_limit.NoteLimit.{NoteLimit}
use Rattle.dmr_port.specs.declared.note_limit.NoteVerdict.{NoteVerdict}
use Rattle.dmr_port.specs.declared.note_limit.NoteVerdict.TheVariants.{Write, WriteAfter, Drop}

-- the limit of a kind of which there was no note
abbrev pub fresh_limit : NoteLimit
fresh_limit = record { minute_began = 0; written = 0; dropped = 0 }

-- the minute of 60,000 ms in which notes are counted has not ended
abbrev pub is_in_minute : ℕ → NoteLimit → Bool
is_in_minute now limit = nat_lt (now - limit.minute_began) 60_000

-- fewer than 20 notes were written in it
abbrev pub has_note_left : NoteLimit → Bool
has_note_left limit = nat_lt limit.written 20

-- what is done with a note: 20 notes a minute are written, and the first of the next minute after the number of those
-- that were not
abbrev pub verdict_on_note : ℕ → NoteLimit → NoteVerdict
verdict_on_note now limit =
    if is_in_minute now limit then (if has_note_left limit then Write else Drop)
    else if limit.dropped == 0 then Write else WriteAfter limit.dropped

-- the counts after the note
abbrev pub limit_after : ℕ → NoteLimit → NoteLimit
limit_after now limit =
    if is_in_minute now limit
    then (if has_note_left limit then record limit { written = limit.written + 1 }
    else record limit { dropped = min (limit.dropped + 1) (2 ^ 32 - 1) })
    else record { minute_began = now; written = 1; dropped = 0 }
