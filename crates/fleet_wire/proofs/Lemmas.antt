-- The lemmas of this crate's words. Crates above cite these, and no other file of proofs/.
-- Serves fleet_gossip, fleet_site, fleet_world.
use Rattle.std.proofs.Common.{◌≡◌, ℕ, ◌/◌, ◌%◌, List, ◌++◌, length, refl, ap, ◌∙◌, arith}
use Rattle.std.proofs.lemmas.List.{append-nil}
use Rattle.fleet_name.specs.Name.{wire, IsWire}
use Rattle.fleet_wire.specs.Number.{u16_octets, u32_octets}
use Rattle.fleet_wire.specs.Shape.{IsPlain}
use Rattle.fleet_wire.specs.declared.rtype.TheConstants.{CNAME}
pub use Rattle.fleet_wire.proofs.Lawful.{question_asked}
pub use Rattle.fleet_wire.proofs.Records.{one_reply}

-- two octets, and four
pub u16_long : (n : ℕ) → length (u16_octets n) ≡ 2
u16_long n = refl

pub u32_long : (n : ℕ) → length (u32_octets n) ≡ 4
u32_long n = refl

-- octets of numbers, and what follows them, determine both
pub u16_exact : (a b : ℕ) (r s : List ℕ) → u16_octets a ++ r ≡ u16_octets b ++ s
    → (a ≡ b) × (r ≡ s)
u16_exact a b r s e =
    let hi : a / 256 ≡ b / 256 = cc in
    let lo : a % 256 ≡ b % 256 = cc in
    (grind (arith, hi, lo), cc)

pub u32_exact : (a b : ℕ) (r s : List ℕ) → u32_octets a ++ r ≡ u32_octets b ++ s
    → (a ≡ b) × (r ≡ s)
u32_exact a b r s e =
    let one =
    u16_exact (a / 65536) (b / 65536) (u16_octets (a % 65536) ++ r) (u16_octets (b % 65536) ++ s)
    e in
    let two = u16_exact (a % 65536) (b % 65536) r s one.1 in
    let hi : a / 65536 ≡ b / 65536 = one.0 in
    let lo : a % 65536 ≡ b % 65536 = two.0 in
    (grind (arith, hi, lo), two.1)

-- plain RDATA of an alias is a name
pub plain_alias : (rdata : List ℕ) → IsPlain CNAME rdata → IsWire rdata
plain_alias rdata plain = record {
  name = plain.0;
  named = plain.3;
  whole = plain.2 ∙ (ap (λ (x : List ℕ). wire plain.0 ++ x) plain.4 ∙ append-nil (wire plain.0));
}
