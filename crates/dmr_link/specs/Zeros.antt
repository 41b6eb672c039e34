-- A bound on the octets that answer octets of a carrier, from the number of zeros among them. Only contracts inside
-- this crate name these definitions; nothing above depends on them.
use Rattle.std.specs.Prelude.{ℕ, ◌==◌, Bool, false, List, length, filter}
use Rattle.dmr_frames.specs.Between.{is_between}
use Rattle.dmr_link.specs.declared.connection.Connection.{Connection}
use Rattle.dmr_link.specs.declared.connection.Connection.TheVariants.{Running}

-- how many octets are 0
abbrev pub zeros_in : List ℕ → ℕ
zeros_in octets = length (filter (λ octet. octet == 0) octets)

-- the carrier is up, and no frame of it has begun
abbrev pub is_up_between : Connection → Bool
is_up_between (Running rest newest) = is_between rest
is_up_between other = false
