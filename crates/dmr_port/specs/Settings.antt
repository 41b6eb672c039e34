-- What the settings of a port say about it.
use Rattle.std.specs.Prelude.{ℕ, Bool, true, false, List}
use Rattle.dmr_frames.specs.declared.version.Version.{Version}
use Rattle.dmr_port.specs.declared.settings.PortSettings.{PortSettings}
use Rattle.dmr_port.specs.declared.whose.Whose.{Whose}
use Rattle.dmr_port.specs.declared.whose.Whose.TheVariants.{Carrier, Console}
use Rattle.dmr_port.specs.FirstOctets.{IsHelloFor}

-- the port is a carrier's
abbrev pub is_carrier : Whose → Bool
is_carrier (Carrier number lpcn) = true
is_carrier Console = false

-- the octets are a HELLO for the port's owner, if versions up to `greatest` are served; nothing is, for the operators
abbrev pub IsClaimOn : Whose → Version → List ℕ → Type 0
IsClaimOn (Carrier number lpcn) greatest octets = IsHelloFor greatest number lpcn octets
IsClaimOn Console greatest octets = ⊥

-- the octets are a HELLO for the port's owner
abbrev pub IsClaim : PortSettings → List ℕ → Type 0
IsClaim settings octets = IsClaimOn settings.whose settings.greatest octets
