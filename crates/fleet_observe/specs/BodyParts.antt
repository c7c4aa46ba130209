-- The parts of a body, as they are held.
-- Serves every call of `Observation`: its model.
use Rattle.std.specs.Prelude.{◌≡◌, ℕ, []}
use Rattle.fleet_name.specs.Types.{Labels, OctetList}
use Rattle.fleet_wire.specs.Types.{RType, Seconds}
use Rattle.fleet_observe.specs.Body.{positive_body, negative_body, AreRdatas, IsDenial}
use Rattle.fleet_observe.specs.Observation.{ObservationData, IsNegativeKind}
use Rattle.fleet_observe.specs.declared.observation.kind.Kind.{Kind}
use Rattle.fleet_observe.specs.declared.observation.kind.Kind.TheVariants.{Positive, Flush}
use Rattle.fleet_observe.specs.declared.observation.body.Body.{Body}
use Rattle.fleet_observe.specs.declared.observation.body.Body.TheVariants.{Records, Authority, Nothing}

-- the octets that the parts are
abbrev pub body_octets : {A : Type 0} → Body A → OctetList
body_octets (Records rdatas) = positive_body rdatas.items
body_octets (Authority owner rdata) = negative_body owner rdata
body_octets Nothing = []

-- the observation that is held in these parts
abbrev pub observation_data : {A : Type 0} → Kind → Labels → RType → ℕ → Seconds → Seconds → Body A
    → ObservationData
observation_data kind name rtype rank stamp life body = record {
  kind = kind;
  name = name;
  rtype = rtype;
  body = body_octets body;
  rank = rank;
  stamp = stamp;
  life = life;
}

-- the parts are those of the kind, and lawful
abbrev pub IsBodyOf : {A : Type 0} → Kind → Labels → RType → Body A → Type 0
IsBodyOf kind name rtype (Records rdatas) = (kind ≡ Positive) × AreRdatas rtype rdatas.items
IsBodyOf kind name rtype (Authority owner rdata) = IsNegativeKind kind × IsDenial name owner rdata
IsBodyOf kind name rtype Nothing = kind ≡ Flush

-- What follows, private contracts alone cite.

-- the bodies hold the same parts
abbrev pub AreSameParts : {A : Type 0} → Body A → Body A → Type 0
AreSameParts (Records rdatas) (Records others) = rdatas.items ≡ others.items
AreSameParts (Records rdatas) (Authority owner rdata) = ⊥
AreSameParts (Records rdatas) Nothing = ⊥
AreSameParts (Authority owner rdata) (Records others) = ⊥
AreSameParts (Authority owner rdata) (Authority other_owner other_rdata) =
    (owner ≡ other_owner) × (rdata ≡ other_rdata)
AreSameParts (Authority owner rdata) Nothing = ⊥
AreSameParts Nothing (Records others) = ⊥
AreSameParts Nothing (Authority owner rdata) = ⊥
AreSameParts Nothing Nothing = Unit {0}
