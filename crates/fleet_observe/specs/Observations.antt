-- The observations of a reply (RFC 2181 5.4.1, RFC 2308 5).
-- Serves `observations`, laws `one_digest` and `each_once`.
use Rattle.std.specs.Prelude.{◌≡◌, ℕ, Bool, ◌&&◌, List, [], ◌∷◌, ◌++◌, length, if◌then◌else◌, nat_eq, nat_lt, Option, Some, None}
use Rattle.std.specs.Str.{bytes_eq}
use Rattle.fleet_name.specs.Types.{Labels}
use Rattle.fleet_wire.specs.Types.{RType, Seconds}
use Rattle.fleet_name.specs.Name.{wire}
use Rattle.fleet_wire.specs.Message.{MessageData}
use Rattle.fleet_observe.specs.Members.{AllDistinct}
use Rattle.fleet_observe.specs.Body.{positive_body, negative_body}
use Rattle.fleet_observe.specs.Observation.{ObservationData, Observations}
use Rattle.fleet_observe.specs.RrSet.{RrSetData}
use Rattle.fleet_observe.specs.Soa.{SoaData}
use Rattle.fleet_observe.specs.Digest.{EndData, Records, NoData, NxDomain, Code, Truncated, DigestData, denied_by}
use Rattle.fleet_observe.specs.DigestOf.{IsDigest}
use Rattle.fleet_observe.specs.declared.bounds.TheConstants.{LONGEST_BODY}
use Rattle.fleet_observe.specs.declared.observation.kind.Kind.{Kind}
use Rattle.fleet_observe.specs.declared.rank.TheConstants.{OTHER, AUTHORITY, ANSWER}
use Rattle.fleet_observe.specs.declared.observation.kind.Kind.TheVariants.{NameError, NoData as KindNoData, Positive}

-- the observation as a list; none where it has no life
abbrev pub living_observation : ObservationData → Observations
living_observation o = if nat_eq o.life 0 then [] else o ∷ []

-- the observation as a list; none where it has no life, or its body passes LONGEST_BODY
abbrev pub fitting_observation : ObservationData → Observations
fitting_observation o = if nat_lt LONGEST_BODY (length o.body) then [] else living_observation o

-- the observation of an RRset
abbrev pub set_observation : RrSetData → ℕ → Seconds → ObservationData
set_observation x rank stamp = record {
  kind = Positive;
  name = x.name;
  rtype = x.rtype;
  body = positive_body x.rdatas;
  rank = rank;
  stamp = stamp;
  life = x.ttl;
}

-- the observation of an RRset, where it is kept: none without a life, or with too long a body
abbrev pub positive_observations : RrSetData → ℕ → Seconds → Observations
positive_observations x rank stamp = fitting_observation (set_observation x rank stamp)

-- the observation of a denial
abbrev pub soa_observation : Kind → Labels → RType → ℕ → Seconds → SoaData → ObservationData
soa_observation kind n t rank stamp x = record {
  kind = kind;
  name = n;
  rtype = t;
  body = negative_body x.owner x.rdata;
  rank = rank;
  stamp = stamp;
  life = x.ttl;
}

-- the observation of a denial, where it is kept: none without an SOA or a life
abbrev pub denial_observations : Kind → Labels → RType → ℕ → Seconds → Option SoaData
    → Observations
denial_observations kind n t rank stamp None = []
denial_observations kind n t rank stamp (Some x) = living_observation
    (soa_observation kind n t rank stamp x)

-- the rank of an answer RRset: ANSWER with AA set where the question's name owns it, else OTHER
abbrev pub answer_rank : Bool → Labels → Labels → ℕ
answer_rank aa q owner = if aa && bytes_eq (wire owner) (wire q) then ANSWER else OTHER

-- the rank of a denial: ANSWER with AA set and no link, else OTHER
abbrev pub denial_rank : Bool → List RrSetData → ℕ
denial_rank aa [] = if aa then ANSWER else OTHER
denial_rank aa (x ∷ xs) = OTHER

-- the observations of the links, in their order
abbrev pub link_observations : Bool → Labels → Seconds → List RrSetData → Observations
link_observations aa q stamp [] = []
link_observations aa q stamp (x ∷ xs) =
    positive_observations x (answer_rank aa q x.name) stamp ++ link_observations aa q stamp xs

-- the observation of the end, if it is kept
abbrev pub end_observations : DigestData → Seconds → EndData → Observations
end_observations d stamp (Records x) = positive_observations x (answer_rank d.aa d.name x.name)
    stamp
end_observations d stamp (NoData soa) =
    denial_observations KindNoData (denied_by d.name d.chain) d.rtype (denial_rank d.aa d.chain)
    stamp soa
end_observations d stamp (NxDomain soa) =
    denial_observations NameError (denied_by d.name d.chain) 0 (denial_rank d.aa d.chain) stamp
    soa
end_observations d stamp (Code c) = []
end_observations d stamp Truncated = []

-- the observations of the NS RRsets that the reply is an authority for
abbrev pub ns_observations : Seconds → List RrSetData → Observations
ns_observations stamp [] = []
ns_observations stamp (x ∷ xs) = positive_observations x AUTHORITY stamp ++ ns_observations stamp xs

-- the observations of a digest, in order: the links, the records or the denial, and the NS RRsets
abbrev pub reply_observations : DigestData → Seconds → Observations
reply_observations d stamp =
    link_observations d.aa d.name stamp d.chain
    ++ (end_observations d stamp d.end ++ ns_observations stamp d.ns)

-- The observations of the reply at the moment, in order: the links, the records or the denial, the
-- NS RRsets, with their ranks and lives. Those without a life, those with too long a body, and
-- denials without an SOA are left out.
pub record IsObserved (r : MessageData) (stamp : Seconds) (os : Observations) : Type 0 where
  pub digest : DigestData
  pub meaning : IsDigest r digest
  pub are : os ≡ reply_observations digest stamp

-- a reply has one digest at most
abbrev pub OneDigest : Type 0
OneDigest = (r : MessageData) (a b : DigestData) → IsDigest r a → IsDigest r b → a ≡ b

-- a reply has one list of observations at a moment
abbrev pub OneObserved : Type 0
OneObserved =
    (r : MessageData) (stamp : Seconds) (a b : Observations) → IsObserved r stamp a
    → IsObserved r stamp b → a ≡ b

-- in the list of a reply's observations each one comes once
abbrev pub EachOnce : Type 0
EachOnce =
    (r : MessageData) (stamp : Seconds) (os : Observations) → IsObserved r stamp os
    → AllDistinct os
