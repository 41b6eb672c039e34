-- What a look at a newcomer's first octets says about it, and whether newcomers claim the connection's place.
use Rattle.std.specs.Prelude.{◌≡◌, ◌↔◌, ◌⊎◌, ℕ, Bool, List, [], ◌∷◌, take, Option, Some, None, IsTrue}
use Rattle.std.specs.List.{AllZip}
use Rattle.arrayvec.specs.ArrayVec.{array_vec_len}
use Rattle.dmr_port.specs.declared.settings.PortSettings.{PortSettings}
use Rattle.dmr_port.specs.declared.sockets.Peeked.{Peeked}
use Rattle.dmr_port.specs.declared.sockets.Peeked.TheVariants as peeked
use Rattle.dmr_port.specs.declared.waiting_room.Newcomer.{Newcomer}
use Rattle.dmr_port.specs.declared.waiting_room.WaitingRoom.{WaitingRoom}
use Rattle.dmr_port.specs.Settings.{IsClaim}
use Rattle.dmr_port.specs.Sockets.{SocketState}

-- a newcomer is known to have sent a HELLO for this carrier exactly if these octets are one
abbrev pub IsKnownBy : PortSettings → Newcomer → List ℕ → Type 0
IsKnownBy settings newcomer octets = IsTrue newcomer.has_hello ↔ IsClaim settings octets

-- it is the same newcomer, known by these octets
abbrev pub HasSent : PortSettings → List ℕ → Newcomer → Option Newcomer → Type 0
HasSent settings octets newcomer None = ⊥
HasSent settings octets newcomer (Some known) =
    (known.from ≡ newcomer.from) × IsKnownBy settings known octets

-- it is known by its first octets; nothing new is known if there are none; and nobody is there if its connection has
-- ended
abbrev pub IsKnownAs : PortSettings → Newcomer → Peeked → List ℕ → Option Newcomer → Type 0
IsKnownAs settings newcomer (peeked.Octets n) octets known =
    HasSent settings (take n octets) newcomer known
IsKnownAs settings newcomer peeked.Nothing octets known = known ≡ Some newcomer
IsKnownAs settings newcomer peeked.Ended octets known = known ≡ None

-- each newcomer is known by the octets that it has shown, if these are known
pub record AreKnown (settings : PortSettings) (newcomers : List Newcomer)
    (shown : Option (List (List ℕ))) : Type 0 where
  pub known : (octets : List (List ℕ)) → shown ≡ Some octets
      → AllZip (IsKnownBy settings) newcomers octets

-- the room has the newcomers of these sockets, each known by what it has shown
pub record HasNewcomersOf (settings : PortSettings) (room : WaitingRoom)
    (sockets : SocketState) : Type 0 where
  pub all : sockets.waiting ≡ array_vec_len room.newcomers
  pub known : AreKnown settings room.newcomers.items sockets.shown

-- some of these octets are a HELLO for this carrier
abbrev pub IsClaimed : PortSettings → List (List ℕ) → Type 0
IsClaimed settings [] = ⊥
IsClaimed settings (octets ∷ others) = IsClaim settings octets ⊎ IsClaimed settings others

-- the connection's place is claimed exactly if a newcomer has shown a HELLO for this carrier, if that is known
pub record IsClaimedAs (settings : PortSettings) (shown : Option (List (List ℕ)))
    (is_claimed : Bool) : Type 0 where
  pub claim : (octets : List (List ℕ)) → shown ≡ Some octets
      → IsTrue is_claimed ↔ IsClaimed settings octets
