-- The walk from a question's name along aliases, which are CNAME records (RFC 1034 3.6.2).
-- Serves `digest`, law `one_walk`.
use Rattle.std.specs.Prelude.{◌≡◌, ◌≤◌, ◌⊎◌, List, [], ◌∷◌, length}
use Rattle.fleet_name.specs.Types.{Labels, OctetList}
use Rattle.fleet_wire.specs.Types.{RType}
use Rattle.fleet_name.specs.Name.{wire, IsName}
use Rattle.fleet_wire.specs.Record.{RecordData}
use Rattle.fleet_wire.specs.declared.rtype.TheConstants.{CNAME}
use Rattle.fleet_observe.specs.RrSet.{InSet, IsEmpty, IsOnly, RrSetData, IsRrSet, HasSet}
use Rattle.fleet_observe.specs.declared.bounds.TheConstants.{MOST_LINKS}

-- at name n the walk goes on to name m: no RRset of the question's type, and an alias with this
-- target alone
pub record GoesOn (s : List RecordData) (t : RType) (n m : Labels) : Type 0 where
  pub without : IsEmpty s n t
  pub target : IsOnly s n CNAME (wire m)
  pub named : IsName m

-- at name n the walk ends with records; those of an alias have one target
pub record EndsFound (s : List RecordData) (t : RType) (n : Labels) : Type 0 where
  pub some : HasSet s n t
  pub single : t ≡ CNAME → (d e : OctetList) → InSet s n t d → InSet s n t e → d ≡ e

-- at name n the walk ends without records
pub record EndsBare (s : List RecordData) (t : RType) (n : Labels) : Type 0 where
  pub without : IsEmpty s n t
  pub no_alias : IsEmpty s n CNAME

-- at name n the walk ends
abbrev pub Ends : List RecordData → RType → Labels → Type 0
Ends s t n = EndsFound s t n ⊎ EndsBare s t n

-- each name goes on to the next one
abbrev pub IsPath : List RecordData → RType → Labels → List Labels → Type 0
IsPath s t n [] = Unit {0}
IsPath s t n (m ∷ later) = GoesOn s t n m × IsPath s t m later

-- the last of the names: n where none is later
abbrev pub last : Labels → List Labels → Labels
last n [] = n
last n (m ∷ later) = last m later

-- The walk from n over the later names, which are at most MOST_LINKS. Each name goes on to the next
-- one by an alias with that target alone. The last one has records of the type, or no records of it
-- and no alias. There is no walk (`BadChain`) where the names loop, with one link more, or where it
-- comes to a name with two different aliases and either CNAME is asked for or the name has no records of
-- the type.
pub record IsWalk (s : List RecordData) (t : RType) (n : Labels) (later : List Labels)
    : Type 0 where
  pub path : IsPath s t n later
  pub ends : Ends s t (last n later)
  pub short : length later ≤ MOST_LINKS

-- there is a walk from n
abbrev pub HasWalk : List RecordData → RType → Labels → Type 0
HasWalk s t n = (later : List Labels) × IsWalk s t n later

-- from a name there is one walk at most
abbrev pub OneWalk : Type 0
OneWalk = (s : List RecordData) (t : RType) (n : Labels) (a b : List Labels)
    → IsWalk s t n a
    → IsWalk s t n b → a ≡ b

-- the links of a walk, in order: the RRset of the alias at each name but the last
abbrev pub AreLinks : List RecordData → Labels → List Labels → List RrSetData
    → Type 0
AreLinks s n [] [] = Unit {0}
AreLinks s n [] (x ∷ xs) = ⊥
AreLinks s n (m ∷ later) [] = ⊥
AreLinks s n (m ∷ later) (x ∷ xs) = IsRrSet s n CNAME x × AreLinks s m later xs
