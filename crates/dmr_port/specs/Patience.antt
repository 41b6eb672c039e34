-- How long a port waits for a connection, and when the connection is given up. All times are in milliseconds.
use Rattle.std.specs.Prelude.{ℕ, ◌+◌, ◌-◌, ◌*◌, ◌^◌, ◌==◌, min, nat_le, Bool, false, not, ◌&&◌}
use Rattle.std.specs.Prelude.{◌||◌, if◌then◌else◌, List, length, slice_index, Option, Some, None}
use Rattle.std.specs.Prelude.{option_map}
use Rattle.std.specs.Option.{is_some, unwrap_or}
use Rattle.std.specs.List.{list_any}
use Rattle.dmr_port.specs.declared.cause.CloseCause.{CloseCause}
use Rattle.dmr_port.specs.declared.cause.CloseCause.TheVariants.{Silence, NoHello, OpenLine, NotRead}
use Rattle.dmr_port.specs.declared.patience.Patience.{Patience}

-- a time after some more milliseconds. It stops at 2 ^ 32 - 1
abbrev pub later : ℕ → ℕ → ℕ
later time milliseconds = min (time + milliseconds) (2 ^ 32 - 1)

-- a time runs and has lasted this many milliseconds
abbrev pub has_lasted_if : ℕ → Option ℕ → Bool
has_lasted_if milliseconds None = false
has_lasted_if milliseconds (Some time) = nat_le milliseconds time

-- the patience with a new connection, from which a HELLO is expected or not
abbrev pub new_patience : Bool → Patience
new_patience expects_hello =
    record { quiet = 0; unread = 0; hello = if expects_hello then Some 0 else None; line = None }

-- after a wait. While octets are kept, nothing is read, so a line does not get older
abbrev pub patience_after_wait : ℕ → Bool → Patience → Patience
patience_after_wait ms keeps p = record {
  quiet = later p.quiet ms;
  unread = if keeps then later p.unread ms else p.unread;
  hello = option_map (λ time. later time ms) p.hello;
  line = if keeps then p.line else option_map (λ time. later time ms) p.line;
}

-- octets end with a line feed
abbrev pub ends_line : List ℕ → Bool
ends_line octets = slice_index octets (length octets - 1) == 10

-- how long the line that has not ended has lasted, after octets. There is none if they end with a line feed. It is new
-- if they have a line feed elsewhere, or if no line had begun
abbrev pub line_after : Option ℕ → List ℕ → Option ℕ
line_after line octets =
    if ends_line octets then None
    else if list_any (λ octet. octet == 10) octets then Some 0
    else Some (unwrap_or line 0)

-- after octets came
abbrev pub patience_after_octets : List ℕ → Bool → Bool → Patience → Patience
patience_after_octets octets has_hello by_lines p = record {
  quiet = 0;
  unread = p.unread;
  hello = if has_hello then None else p.hello;
  line = if by_lines then line_after p.line octets else p.line;
}

-- the connection yields its place to a claimant: no whole HELLO has come, or no octet for 1 s
abbrev pub is_displaceable : Patience → Bool
is_displaceable p = is_some p.hello || nat_le 1000 p.quiet

-- why a connection is given up after a wait. Silence: nothing is kept, and nothing came for `silence` waits of 100 ms.
-- No HELLO came, or a line did not end, for as long. Kept octets were not taken for 50 waits
abbrev pub cause_after_wait : ℕ → Bool → Bool → Patience → Option CloseCause
cause_after_wait silence keeps ready p =
    if not keeps && not ready && nat_le (100 * silence) p.quiet then Some Silence
    else if has_lasted_if (100 * silence) p.hello then Some NoHello
    else if has_lasted_if (100 * silence) p.line then Some OpenLine
    else if keeps && not ready && nat_le (100 * 50) p.unread then Some NotRead
    else None
