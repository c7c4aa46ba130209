-- Octets of a number determine it, and are as many as its size.
-- Serves what `Entries`, `Frames`, `Names`, `Passing` serve.
use Rattle.std.proofs.Common.{◌≡◌, ℕ, ◌/◌, ◌%◌, List, ◌++◌, length, refl, arith}
use Rattle.fleet_wire.specs.Number.{u32_octets}
use Rattle.fleet_wire.proofs.Lemmas.{u32_exact}
use Rattle.fleet_gossip.specs.Entry.{octet, u64_octets}

pub octet_exact : (a b : ℕ) (r s : List ℕ) → octet a ++ r ≡ octet b ++ s → (a ≡ b) × (r ≡ s)
octet_exact a b r s e = (cc, cc)

pub u64_exact : (a b : ℕ) (r s : List ℕ) → u64_octets a ++ r ≡ u64_octets b ++ s → (a ≡ b) × (r ≡ s)
u64_exact a b r s e =
    let one = u32_exact (a / 4294967296) (b / 4294967296) (u32_octets (a % 4294967296) ++ r)
    (u32_octets (b % 4294967296) ++ s) e in
    let two = u32_exact (a % 4294967296) (b % 4294967296) r s one.1 in
    let hi : a / 4294967296 ≡ b / 4294967296 = one.0 in
    let lo : a % 4294967296 ≡ b % 4294967296 = two.0 in
    (grind (arith, hi, lo), two.1)

pub octet_long : (n : ℕ) → length (octet n) ≡ 1
octet_long n = refl

pub u64_long : (n : ℕ) → length (u64_octets n) ≡ 8
u64_long n = refl
