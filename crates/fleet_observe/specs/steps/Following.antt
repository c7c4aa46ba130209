-- The hops of a walk along CNAMEs.
-- Serves the walk in `digest`.
use Rattle.std.specs.Prelude.{◌≡◌, List}
use Rattle.fleet_name.specs.Types.{Labels, OctetList}
use Rattle.fleet_wire.specs.Types.{RType}
use Rattle.fleet_name.specs.Name.{labels_of}
use Rattle.fleet_wire.specs.Record.{RecordData, IsPlainRecord}
use Rattle.fleet_wire.specs.declared.rtype.TheConstants.{CNAME}
use Rattle.fleet_observe.specs.Members.{Has}
use Rattle.fleet_observe.specs.RrSet.{IsOfRrSet, InSet, IsEmpty, IsOnly, SpellsName}
use Rattle.fleet_observe.specs.declared.reply.summary.Followed.{Followed}
use Rattle.fleet_observe.specs.declared.reply.walk.Found.{Found}
use Rattle.fleet_observe.specs.declared.reply.walk.Found.TheVariants.{Nothing, One, Several}
use Rattle.fleet_observe.specs.declared.reply.walk.Hop.{Hop}
use Rattle.fleet_observe.specs.declared.reply.walk.Hop.TheVariants.{Records, Alias, Bare, Fork}
use Rattle.fleet_observe.specs.Walk.{GoesOn, EndsFound, EndsBare, Ends, last, IsWalk, AreLinks}

-- r is a record of the RRset at name n and type t
pub record IsOf (s : List RecordData) (n : Labels) (t : RType) (r : RecordData) : Type 0 where
  pub member : Has s r
  pub is_of_rrset : IsOfRrSet n t r

-- what is found of the RRset at name n and type t: no RDATA, one, or several
abbrev pub IsFound : {A : Type 0} → List RecordData → Labels → RType → Found A → Type 0
IsFound s n t Nothing = IsEmpty s n t
IsFound s n t (One r) = IsOf s n t r.now × IsOnly s n t r.now.rdata
IsFound s n t (Several r) = IsOf s n t r.now
    × ((d : OctetList) × (e : OctetList) × InSet s n t d × InSet s n t e × (¬ (d ≡ e)))

-- no walk ends at n or goes on from there
pub record IsFork (s : List RecordData) (t : RType) (n : Labels) : Type 0 where
  pub endless : ¬ Ends s t n
  pub aimless : (m : Labels) → ¬ GoesOn s t n m

-- by the alias r the walk goes on from n
pub record IsAlias (s : List RecordData) (t : RType) (n : Labels) (r : RecordData) : Type 0 where
  pub of_set : IsOf s n CNAME r
  pub goes : GoesOn s t n (labels_of r.rdata)
  pub spelled : SpellsName r.rdata

-- what the walk does at a name
abbrev pub IsHop : {A : Type 0} → List RecordData → RType → Labels → Hop A → Type 0
IsHop s t n (Records r) = EndsFound s t n × IsOf s n t r.now
IsHop s t n (Alias r) = IsAlias s t n r.now
IsHop s t n Bare = EndsBare s t n
IsHop s t n Fork = IsFork s t n

-- the walk was followed to its end
pub record IsFollowed {A : Type 0} (s : List RecordData) (t : RType) (n : Labels)
    (f : Followed A)
    : Type 0 where
  pub later : List Labels
  pub walk : IsWalk s t n later
  pub links : AreLinks s n later f.chain.items
  pub at_last : labels_of f.at.now ≡ last n later
  pub spelled : SpellsName f.at.now

-- each record of the section is plain
abbrev pub ArePlainRecords : List RecordData → Type 0
ArePlainRecords s = (r : RecordData) → Has s r → IsPlainRecord r
