-- What is held of one name.
-- Serves the map below `Cache`.
use Rattle.std.specs.Prelude.{◌≡◌, ℕ, Bool, ◌&&◌, not, nat_eq, List}
use Rattle.fleet_name.specs.Types.{Labels}
use Rattle.fleet_wire.specs.Types.{RType}
use Rattle.fleet_observe.specs.Members.{Has}
use Rattle.fleet_observe.specs.declared.observation.kind.Kind.{Kind}
use Rattle.fleet_observe.specs.Observation.{ObservationData, kind_number, Observations}
use Rattle.fleet_cache.specs.Front.{IsFront, IsDescending}
use Rattle.fleet_cache.specs.Cut.{CutData, is_hidden}
use Rattle.fleet_cache.specs.Dominates.{dominates}
use Rattle.fleet_cache.specs.steps.Row.{row}
use Rattle.fleet_cache.specs.steps.Packed.{words_of, IsPackable}

-- none of the items is of the name with these words
abbrev pub HasNoKey : Observations → List ℕ → Type 0
HasNoKey items words = (o : ObservationData) → Has items o → words_of o ≡ words → ⊥

-- the front is that of the items that are of the name with these words
pub record IsOfKey (items : Observations) (words : List ℕ) (front : Observations)
    : Type 0 where
  pub member : (o : ObservationData) → Has front o → Has items o
  pub keyed : (o : ObservationData) → Has front o → words_of o ≡ words
  pub packable : (o : ObservationData) → Has front o → IsPackable o.name
  pub whole : (o : ObservationData) → Has items o → words_of o ≡ words → Has front o
  pub own_front : IsFront row dominates front front

-- some of the items of the name n, in order: of those of the kind, all
pub record IsOfName (kind : Kind) (items : Observations) (n : Labels)
    (here : Observations) : Type 0 where
  pub member : (o : ObservationData) → Has here o → Has items o
  pub named : (o : ObservationData) → Has here o → o.name ≡ n
  pub whole : (o : ObservationData) → Has items o → o.name ≡ n → o.kind ≡ kind → Has here o
  pub in_rows : IsDescending row here

-- whether an observation is of the kind and the type
abbrev pub is_of : Kind → RType → ObservationData → Bool
is_of kind rtype o = nat_eq o.rtype rtype && nat_eq (kind_number o.kind) (kind_number kind)

-- whether an observation is of the kind and the type, and the cut shows it
abbrev pub is_shown_of : Kind → RType → CutData → ObservationData → Bool
is_shown_of kind rtype cut o = is_of kind rtype o && not (is_hidden cut o)
