-- The program's sockets, call by call.
use Rattle.std.specs.Prelude.{◌≡◌, vec_len}
use Rattle.dmr_trunk.specs.declared.mio_sockets.MioSockets.{MioSockets}

-- as many newcomers wait, and the connection and the time are the same
pub record KeepsSockets {R : Type 0} (old new : MioSockets R) : Type 0 where
  pub newcomers : vec_len new.newcomers ≡ vec_len old.newcomers
  pub connection : new.connection ≡ old.connection
  pub clock : new.now ≡ old.now
