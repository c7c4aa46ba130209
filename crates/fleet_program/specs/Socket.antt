-- What is made of the system's addresses and errors.
-- Serves `SystemSocket`, `bind_port`.
use Rattle.std.specs.Prelude.{◌≡◌, ◌⊎◌, Option, Some, None}
use Rattle.std.specs.declared.io.ErrorKind.{ErrorKind}
use Rattle.std.specs.declared.io.ErrorKind.TheVariants.{WouldBlock, TimedOut, Interrupted}
use Rattle.std.specs.declared.net.socket_addr.SocketAddr.{SocketAddr}
use Rattle.std.specs.declared.net.socket_addr.SocketAddr.TheVariants.{V4, V6}
use Rattle.std.specs.Net.Addr.{ipv4_bits}
use Rattle.std.specs.Net.Socket.{v4_ip, v4_port}
use Rattle.fleet_pending.specs.declared.addr.Addr.{Addr}

-- the `Addr` of an address of the system, if it is one of IPv4; there is no other
abbrev pub address_in : SocketAddr → Option Addr
address_in (V4 a) = Some (record { host = ipv4_bits (v4_ip a); port = v4_port a })
address_in (V6 a) = None

-- an error of a receive that is no fault: no datagram came in time, or a signal interrupted it
abbrev pub IsQuiet : ErrorKind → Type 0
IsQuiet kind = (kind ≡ WouldBlock) ⊎ ((kind ≡ TimedOut) ⊎ (kind ≡ Interrupted))

-- where a socket is that was to be bound to an address: there, or where its port was 0 at some port of
-- the same host
abbrev pub IsAt : Addr → Addr → Type 0
IsAt asked own = (asked.host ≡ own.host) × ((asked.port ≡ 0) ⊎ (asked.port ≡ own.port))
