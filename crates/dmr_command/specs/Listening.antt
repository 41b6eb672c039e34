-- The address at which a served site listens.
use Rattle.std.specs.Prelude.{◌≡◌, ℕ, List}
use Rattle.std.specs.Net.Addr.{ipv4_octets}
use Rattle.std.specs.Net.Socket.{v4_ip, v4_port}
use Rattle.std.specs.declared.net.socket_addr.SocketAddr.{SocketAddr}
use Rattle.std.specs.declared.net.socket_addr.SocketAddr.TheVariants.{V4, V6}

-- the IPv4 address of these octets, and this port
abbrev pub IsListenAddress : List ℕ → ℕ → SocketAddr → Type 0
IsListenAddress octets port (V4 address) =
    (ipv4_octets (v4_ip address) ≡ octets) × (v4_port address ≡ port)
IsListenAddress octets port (V6 address) = ⊥
