-- The most preferred observation with a property.
-- Serves the look-ups of `Cache::answer`, and those of flushes for `Cache::take` and `Cache::purge`.
use Rattle.std.specs.Prelude.{◌≡◌, Bool, true, ◌⊎◌, ◌∷◌, Option, Some, None}
use Rattle.std.specs.declared.cmp.Ordering.TheVariants.{Greater}
use Rattle.fleet_name.specs.Types.{Label, Labels, OctetList}
use Rattle.fleet_wire.specs.Types.{RType}
use denote.Ref.{Bor}
use Rattle.fleet_name.specs.Name.{wire, IsName, IsUnder}
use Rattle.fleet_wire.specs.declared.rtype.TheConstants.{CNAME}
use Rattle.fleet_observe.specs.declared.observation.kind.Kind.{Kind}
use Rattle.fleet_observe.specs.declared.observation.kind.Kind.TheVariants.{NameError, NoData, Positive}
use Rattle.fleet_observe.specs.Members.{Has}
use Rattle.fleet_observe.specs.Observation.{ObservationData, Observations}
use Rattle.fleet_observe.specs.Preference.{preference}

-- o is the most preferred of those of s that have the property, or none has it
abbrev pub IsBest : (ObservationData → Type 0) → Observations → Option ObservationData
    → Type 0
IsBest P s None = (y : ObservationData) → Has s y → P y → ⊥
IsBest P s (Some x) =
    Has s x × P x × ((y : ObservationData) → Has s y → P y → (preference x y ≡ Greater) ⊎ (x ≡ y))

-- what a reference points to, if there is one
abbrev pub referent : Option (Bor ObservationData) → Option ObservationData
referent None = None
referent (Some x) = Some x.now

-- o is one of those that live, and is of the name, the kind and the type
pub record IsOn (lives : ObservationData → Bool) (name : Labels) (kind : Kind) (rtype : RType)
    (o : ObservationData) : Type 0 where
  pub live : lives o ≡ true
  pub named : o.name ≡ name
  pub of_kind : o.kind ≡ kind
  pub of_type : o.rtype ≡ rtype

-- the octets are those of the name above n: of n without its first label
pub record IsParent (n : Labels) (above : OctetList) : Type 0 where
  pub label : Label
  pub rest : Labels
  pub is : n ≡ label ∷ rest
  pub named : IsName rest
  pub whole : above ≡ wire rest

-- o is one of those that live, and is of the kind and of no type, at the name or above it
pub record IsAbove (lives : ObservationData → Bool) (kind : Kind) (name : Labels)
    (o : ObservationData) : Type 0 where
  pub live : lives o ≡ true
  pub under : IsUnder name o.name
  pub of_kind : o.kind ≡ kind
  pub of_type : o.rtype ≡ 0

-- o is one of those that live, and speaks of the name and the type
abbrev pub Speaks : (ObservationData → Bool) → Labels → RType → ObservationData → Type 0
Speaks lives n rtype o = (IsOn lives n Positive rtype o ⊎ IsOn lives n Positive CNAME o)
    ⊎ (IsOn lives n NoData rtype o ⊎ IsAbove lives NameError n o)
