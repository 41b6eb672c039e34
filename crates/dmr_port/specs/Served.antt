-- The connection that a port serves, after each call of its sockets.
use Rattle.std.specs.Prelude.{◌≡◌, ◌↔◌, ℕ, ◌==◌, Bool, false, not, ◌&&◌, ◌||◌, if◌then◌else◌, List}
use Rattle.std.specs.Prelude.{take, Option, Some, IsTrue}
use Rattle.dmr_wire.specs.declared.wire.Got.{Got}
use Rattle.dmr_wire.specs.declared.wire.Got.TheVariants as got
use Rattle.dmr_port.specs.declared.cause.CloseCause.{CloseCause}
use Rattle.dmr_port.specs.declared.cause.CloseCause.TheVariants.{EndOfInput, ReadFault, Displaced}
use Rattle.dmr_port.specs.declared.patience.Patience.{Patience}
use Rattle.dmr_port.specs.declared.served.Served.{Served}
use Rattle.dmr_port.specs.declared.sockets.Ready.{Ready}
use Rattle.dmr_port.specs.FirstOctets.{IsHello}
use Rattle.dmr_port.specs.Patience.{cause_after_wait, is_displaceable, patience_after_octets}
use Rattle.dmr_port.specs.Patience.{patience_after_wait}

-- after the system's answer to a read of at most `asked` octets. A read of fewer is the last for now
abbrev pub after_read : Got → ℕ → Served → Served
after_read (got.Octets n) asked s = record s { may_read = n == asked }
after_read got.End asked s = record s { ended = Some EndOfInput }
after_read got.Interrupted asked s = s
after_read got.Block asked s = record s { may_read = false }
after_read got.Fault asked s = record s { ended = Some ReadFault }

-- after a wait of this many milliseconds
abbrev pub after_wait : Ready → ℕ → Bool → Served → Served
after_wait ready ms keeps s = record s {
  patience = patience_after_wait ms keeps s.patience;
  may_read = s.may_read || ready.connection;
  input_closed = s.input_closed || ready.input_closed;
}

-- octets came that the link may have. The connection is no longer waited for with a HELLO if its first six octets are
-- one
pub record HearsOctets (octets : List ℕ) (is_carrier : Bool) (old new : Served) : Type 0 where
  pub has_hello : Bool
  pub hello : IsTrue has_hello ↔ IsHello (take 6 new.first.octets.items)
  pub heard : new ≡ record old {
    first = new.first;
    patience = patience_after_octets octets has_hello (not is_carrier) old.patience;
  }

-- why the connection is given up after a wait. It is displaced if its place is claimed and it has sent no whole HELLO,
-- or no octet for 1 s
abbrev pub cause_of_served : ℕ → Bool → Bool → Bool → Patience → Option CloseCause
cause_of_served silence keeps ready is_claimed p =
    if is_claimed && is_displaceable p then Some Displaced
    else cause_after_wait silence keeps ready p
