-- The lengths of names at which there may be observations of a kind.
-- Serves the way up in `Cache::answer`.
use Rattle.std.specs.Prelude.{◌≡◌, ℕ, ◌≤◌, Bool, true, false, ◌⊎◌, List, length, get_or}
use Rattle.fleet_name.specs.Types.{Labels}
use Rattle.fleet_name.specs.Name.{wire, IsUnder}
use Rattle.fleet_observe.specs.Members.{Has}
use Rattle.fleet_observe.specs.declared.observation.kind.Kind.{Kind}
use Rattle.fleet_observe.specs.declared.observation.kind.Kind.TheVariants.{NameError, Flush}
use Rattle.fleet_observe.specs.Observation.{ObservationData, Observations}

-- the lengths of names in full, in octets, that were noted, and a number that is at most each of them
pub record NotedData : Type 0 where
  pub lengths : List Bool
  pub least : ℕ

-- the length of a name was noted
pub record IsNoted (noted : NotedData) (size : ℕ) : Type 0 where
  pub marked : get_or noted.lengths size false ≡ true
  pub within : noted.least ≤ size

-- each item of the kind has the length of its name in full noted
abbrev pub AreNoted : Kind → NotedData → Observations → Type 0
AreNoted kind noted items =
    (o : ObservationData) → Has items o → o.kind ≡ kind → IsNoted noted (length (wire o.name))

-- no item is of the kind and of a name of this many octets
abbrev pub HasNone : Kind → ℕ → Observations → Type 0
HasNone kind size items =
    (o : ObservationData) → Has items o → o.kind ≡ kind → length (wire o.name) ≡ size → ⊥

-- none of the items is of the kind and of a name of fewer octets
abbrev pub HasNoneShorter : Kind → ℕ → Observations → Type 0
HasNoneShorter kind size items =
    (o : ObservationData) → Has items o → o.kind ≡ kind → size ≤ length (wire o.name)

-- a kind that decides for the names below its own too
abbrev pub IsHead : Kind → Type 0
IsHead kind = (kind ≡ NameError) ⊎ (kind ≡ Flush)

-- no name error or flush among the items is of a name above n
abbrev pub HasNoneAbove : Observations → Labels → Type 0
HasNoneAbove items n =
    (o : ObservationData) → Has items o → IsHead o.kind → IsUnder n o.name → o.name ≡ n
