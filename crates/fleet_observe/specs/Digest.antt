-- What a digest says, as plain data.
-- Serves `digest`, and every call of `Digest`.
use Rattle.std.specs.Prelude.{◌≡◌, ◌≢◌, ℕ, length, ◌≤◌, ◌<◌, Bool, List, [], ◌∷◌, Option, Some, None}
use Rattle.fleet_name.specs.Types.{Labels, OctetList}
use Rattle.fleet_wire.specs.Types.{RType}
use Rattle.fleet_name.specs.Name.{labels_of, IsName, IsUnder}
use Rattle.fleet_wire.specs.Shape.{IsPlain}
use Rattle.fleet_wire.specs.declared.rtype.TheConstants.{CNAME, SOA}
use Rattle.fleet_observe.specs.Members.{Has, IsAscending}
use Rattle.fleet_observe.specs.Body.{AreAllPlain}
use Rattle.fleet_observe.specs.Observation.{IsDataType}
use Rattle.fleet_observe.specs.RrSet.{RrSetData}
use Rattle.fleet_observe.specs.declared.bounds.TheConstants.{LONGEST_DENIAL, LONGEST_LIFE, MOST_LINKS}
use Rattle.fleet_observe.specs.Soa.{SoaData}
use Rattle.fleet_observe.specs.declared.reply.ending.End.{End}
use Rattle.fleet_observe.specs.declared.reply.ending.End.TheVariants.{Records as EndRecords, NoData as EndNoData, NxDomain as EndNxDomain, Code as EndCode, Truncated as EndTruncated}

-- how a reply ends: with records, without data of the type, without such a name, with another code,
-- or cut off
pub data EndData : Type 0 where
  Records : RrSetData → EndData
  NoData : Option SoaData → EndData
  NxDomain : Option SoaData → EndData
  Code : ℕ → EndData
  Truncated : EndData

-- what a reply means: the question's name and type, whether AA was set, the links of the walk, its
-- end, and the NS RRsets that it is an authority for
pub record DigestData : Type 0 where
  pub name : Labels
  pub rtype : RType
  pub aa : Bool
  pub chain : List RrSetData
  pub end : EndData
  pub ns : List RrSetData

-- an end, as plain data
abbrev pub end_data : {A : Type 0} → End A → EndData
end_data (EndRecords x) = Records x
end_data (EndNoData soa) = NoData soa
end_data (EndNxDomain soa) = NxDomain soa
end_data (EndCode c) = Code c
end_data EndTruncated = Truncated

-- the target of an alias at n: the name that its RDATA is, or n where there is none
abbrev pub target_of : Labels → Labels → Labels
target_of n [] = n
target_of n (d ∷ ds) = labels_of d

-- the name where the walk ended: the question's, or the last link's target
abbrev pub denied_by : Labels → List RrSetData → Labels
denied_by n [] = n
denied_by n (x ∷ xs) = denied_by (target_of n x.rdatas) xs

-- an RRset as programs have it
pub record IsLawfulSet (x : RrSetData) : Type 0 where
  pub name : IsName x.name
  pub typed : IsDataType x.rtype
  pub ttl : x.ttl ≤ LONGEST_LIFE
  pub some : x.rdatas ≢ []
  pub ascending : IsAscending x.rdatas
  pub plain : AreAllPlain x.rtype x.rdatas
  pub alone : x.rtype ≡ CNAME → length x.rdatas ≡ 1

-- a link as programs have it
pub record IsLawfulLink (x : RrSetData) : Type 0 where
  pub set : IsLawfulSet x
  pub alias : x.rtype ≡ CNAME

-- an SOA that counts for the denied name n, as programs have it
pub record IsLawfulSoa (n : Labels) (x : SoaData) : Type 0 where
  pub owner : IsName x.owner
  pub under : IsUnder n x.owner
  pub ttl : x.ttl ≤ LONGEST_DENIAL
  pub plain : IsPlain SOA x.rdata

-- an end as programs have it, where the walk ended at the name n
abbrev pub IsLawfulEnd : Labels → EndData → Type 0
IsLawfulEnd n (Records x) = IsLawfulSet x
IsLawfulEnd n (NoData None) = Unit {0}
IsLawfulEnd n (NoData (Some x)) = IsLawfulSoa n x
IsLawfulEnd n (NxDomain None) = Unit {0}
IsLawfulEnd n (NxDomain (Some x)) = IsLawfulSoa n x
IsLawfulEnd n (Code c) = c < 16
IsLawfulEnd n Truncated = Unit {0}

-- what every digest of a program meets
pub record IsLawful (d : DigestData) : Type 0 where
  pub name : IsName d.name
  pub typed : IsDataType d.rtype
  pub chain : (x : RrSetData) → Has d.chain x → IsLawfulLink x
  pub short : length d.chain ≤ MOST_LINKS
  pub end_is : IsLawfulEnd (denied_by d.name d.chain) d.end
  pub ns : (x : RrSetData) → Has d.ns x → IsLawfulSet x

-- What follows, private contracts alone cite.

-- the first of the RDATAs, or else these octets
abbrev pub first_or : OctetList → List OctetList → OctetList
first_or octets [] = octets
first_or octets (d ∷ ds) = d
