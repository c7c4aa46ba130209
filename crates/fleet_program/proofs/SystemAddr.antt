-- Addresses of the system.
-- Serves `system_addr`.
use Rattle.std.proofs.Common.{◌≡◌, ℕ, ◌<◌, ◌^◌, Some, ap, ◌∙◌}
use Rattle.std.specs.Int.{w32, from_be_bytes}
use Rattle.std.specs.declared.net.ipv4_addr.Ipv4Addr.{Ipv4Addr}
use Rattle.std.specs.declared.net.socket_addr.SocketAddrV4.{SocketAddrV4}
use Rattle.std.specs.declared.net.socket_addr.SocketAddr.TheVariants.{V4}
use Rattle.std.specs.Net.Addr.{ipv4_bits, IsIpv4OfBits}
use Rattle.std.specs.Net.Socket.{v4_ip, v4_port}
use Rattle.std.proofs.lemmas.Nat.{from_be_bytes-to_be_bytes_4}
use Rattle.fleet_pending.specs.declared.addr.Addr.{Addr}
use Rattle.fleet_program.specs.Socket.{address_in}

-- an address made of a number has that number
bits_back : (a : Ipv4Addr) (n : ℕ) → n < 2 ^ 32 → IsIpv4OfBits a n → ipv4_bits a ≡ n
unfolding ipv4_bits IsIpv4OfBits
bits_back a n fits e = ap (from_be_bytes w32) e ∙ from_be_bytes-to_be_bytes_4 n fits

-- so an address is the one that it was made of
pub address_back : (addr : Addr) (a : Ipv4Addr) (s : SocketAddrV4) → addr.host < 2 ^ 32
    → IsIpv4OfBits a addr.host → v4_ip s ≡ a → v4_port s ≡ addr.port → address_in (V4 s) ≡ Some addr
address_back addr a s fits made ip port =
    let host : ipv4_bits (v4_ip s) ≡ addr.host = ap ipv4_bits ip ∙ bits_back a addr.host fits
    made in
    rw (host, port)
