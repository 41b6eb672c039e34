-- What the first octets of a connection say about the peer.
use Rattle.std.specs.Prelude.{◌≡◌, ℕ, ◌<◌, ◌==◌, ◌&&◌, Bool, true, false, List, [], ◌∷◌, codes}
use Rattle.std.specs.Prelude.{Option, Some, None, IsSome, is_some, nat_eq}
use Rattle.std.specs.List.{list_any, starts_with}
use Rattle.dmr_frames.specs.declared.frame.FrameIn.{FrameIn}
use Rattle.dmr_frames.specs.declared.frame.FrameIn.TheVariants.{Hello}
use Rattle.dmr_frames.specs.declared.version.Version.{Version}
use Rattle.dmr_frames.specs.Frames.{spelling}
use Rattle.dmr_frames.specs.Versions.{version_named}

-- the octets are those of a HELLO
pub record IsHello (octets : List ℕ) : Type 0 where
  pub version : ℕ
  pub carrier : ℕ
  pub lpcn : ℕ
  pub octet : version < 256
  pub within : carrier < 256
  pub channel : lpcn < 65536
  pub spelled : octets ≡ spelling (Hello version carrier lpcn)

-- the octets are those of a HELLO for this carrier: of a version that is served, with the carrier's number and channel
pub record IsHelloFor (greatest : Version) (carrier lpcn : ℕ) (octets : List ℕ) : Type 0 where
  pub version : ℕ
  pub served : IsSome (version_named greatest version)
  pub spelled : octets ≡ spelling (Hello version carrier lpcn)

-- there is a frame, and it is a HELLO. For private functions
abbrev pub is_hello_frame : Option FrameIn → Bool
is_hello_frame (Some (Hello version carrier lpcn)) = true
is_hello_frame (Some frame) = false
is_hello_frame None = false

-- there is a frame, and it is a HELLO of a version that is served, with this number and channel. For private functions
abbrev pub is_frame_for : Version → ℕ → ℕ → Option FrameIn → Bool
is_frame_for greatest number channel (Some (Hello version carrier lpcn)) =
    is_some (version_named greatest version) && (carrier == number) && (lpcn == channel)
is_frame_for greatest number channel (Some frame) = false
is_frame_for greatest number channel None = false

-- the methods of HTTP, each with a space
abbrev pub http_methods : List (List ℕ)
http_methods =
    codes "GET " ∷ codes "HEAD " ∷ codes "POST " ∷ codes "PUT " ∷ codes "DELETE " ∷ codes "CONNECT "
    ∷ codes "OPTIONS " ∷ codes "TRACE " ∷ codes "PATCH " ∷ []

-- whether octets begin with a request of HTTP: one of its methods and a space
abbrev pub begins_http : List ℕ → Bool
begins_http octets = list_any (λ method. starts_with nat_eq octets method) http_methods
