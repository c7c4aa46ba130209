-- The lines of `EntryFails`: the first fault of an entry from each of its fields on.
-- Serves `read_head`, and what `DecodeLemmas`, `Entries`, `Heads` serve.
use Rattle.std.proofs.Common.{ℕ, List}
use Rattle.fleet_wire.specs.Number.{u16_octets, u32_octets}
use Rattle.fleet_observe.specs.declared.observation.kind.Kind.{Kind}
use Rattle.fleet_observe.specs.Checks.{IsRankOf, IsLifeOf, IsTypeOf}
use Rattle.fleet_gossip.specs.Entry.{octet, u64_octets, IsMoment}
use Rattle.fleet_gossip.specs.Faults.{FieldFails, NameFieldFails, KindOf, BodyFails}
use Rattle.fleet_gossip.specs.declared.fault.FrameFault.{FrameFault}
use Rattle.fleet_gossip.specs.declared.fault.FrameFault.TheVariants.{BadKind, BadRank, BadMoment, BadLife, BadName}

abbrev pub TypeFails : Kind → List (List ℕ) → List ℕ → FrameFault → Type 0
TypeFails kind name = FieldFails u16_octets 2 (IsTypeOf kind) BadKind (BodyFails kind name)

abbrev pub NamedFails : Kind → List ℕ → FrameFault → Type 0
NamedFails kind = NameFieldFails BadName (TypeFails kind)

abbrev pub LifeFails : Kind → List ℕ → FrameFault → Type 0
LifeFails kind = FieldFails u32_octets 4 (IsLifeOf kind) BadLife (λ life. NamedFails kind)

abbrev pub StampFails : Kind → List ℕ → FrameFault → Type 0
StampFails kind = FieldFails u64_octets 8 IsMoment BadMoment (λ stamp. LifeFails kind)

abbrev pub RankFails : Kind → List ℕ → FrameFault → Type 0
RankFails kind = FieldFails octet 1 (IsRankOf kind) BadRank (λ rank. StampFails kind)

abbrev pub KindFails : ℕ → List ℕ → FrameFault → Type 0
KindFails = KindOf RankFails
