-- The steps of making an observation of an entry.
-- Serves `FrameEntry::to_denial`, `FrameEntry::to_records`, `copy_rdatas`, `copy_soa`.
use Rattle.std.proofs.Common.{◌≡◌, ℕ, ◌<◌, List, [], ◌∷◌, ◌++◌, length, sym, ap, ◌∙◌, subst, arith, append_assoc, Option, Some, None}
use Rattle.std.proofs.lemmas.List.{append-nil}
use Rattle.std.specs.List.{flat_map}
use Rattle.fleet_name.specs.Name.{wire, IsName, IsUnder, IsWire}
use Rattle.fleet_wire.specs.Shape.{IsPlain}
use Rattle.fleet_wire.specs.declared.rtype.TheConstants.{SOA}
use Rattle.fleet_observe.specs.Body.{octets_with_length, positive_body, negative_body, AreRdatas}
use Rattle.fleet_observe.specs.Checks.{denied_kind, denied_type, IsDeniedType, IsPositiveFault, IsNegativeFault, bad_rank, bad_life, bad_kind, bad_body}
use Rattle.fleet_observe.specs.Observation.{ObservationData, IsRank, IsDenialRank, IsLife, IsDataType, IsNegative}
use Rattle.fleet_observe.specs.declared.bounds.TheConstants.{LONGEST_DENIAL, LONGEST_LIFE}
use Rattle.fleet_observe.specs.declared.observation.kind.Kind.TheVariants.{Positive}
use Rattle.fleet_observe.specs.declared.observation.fault.ObservationFault.{ObservationFault}
use Rattle.fleet_gossip.specs.Faults.{SizedFails, FrameNameFails}
use Rattle.fleet_gossip.specs.steps.Reading.{AnyRdata, IsPart, IsSoaBody}
use Rattle.fleet_gossip.specs.steps.EntryOf.{IsEntryOf}
use Rattle.fleet_gossip.specs.declared.entry.FrameEntry.{FrameEntry}
use Rattle.fleet_gossip.specs.declared.fault.FrameFault.{FrameFault}
use Rattle.fleet_gossip.specs.declared.fault.FrameFault.TheVariants as refusal
use Rattle.fleet_wire.proofs.Lemmas.{u16_exact}
use Rattle.fleet_gossip.proofs.Names.{name_exact, name_or_fault}
use Rattle.fleet_gossip.proofs.Rows.{align}
use Rattle.fleet_gossip.proofs.Bodies.{sized_exact, sized_or_fault, rdatas_same}

-- The RDATAs that are left of a body, and the next one.
module _ (left : List (List ℕ)) (octets : List ℕ)
    (whole : octets ≡ flat_map octets_with_length left) (some : 0 < length left) where
  pub next_uncut : (f : FrameFault) → SizedFails AnyRdata octets f → ⊥
  next_uncut f h = no_cut left octets whole some h
    where
      no_cut : (xs : List (List ℕ)) (ys : List ℕ) → ys ≡ flat_map octets_with_length xs
          → 0 < length xs → SizedFails AnyRdata ys f → ⊥
      no_cut [] ys is more k = omega (arith, more)
      no_cut (x ∷ xs) ys is more k = sized_or_fault AnyRdata x (flat_map octets_with_length xs) ys f
          tt is k

pub record IsNext (left : List (List ℕ)) (rdata rest : List ℕ) : Type 0 where
  pub behind : List (List ℕ)
  pub left_is : left ≡ rdata ∷ behind
  pub rest_is : rest ≡ flat_map octets_with_length behind

pub next_of : (left : List (List ℕ)) (octets rdata rest : List ℕ)
    → octets ≡ flat_map octets_with_length left → 0 < length left
    → octets ≡ octets_with_length rdata ++ rest → IsNext left rdata rest
next_of [] octets rdata rest whole some lies = absurd (omega (arith, some))
next_of (x ∷ xs) octets rdata rest whole some lies =
    let one = sized_exact x rdata (flat_map octets_with_length xs) rest (sym whole ∙ lies) in
    record { behind = xs; left_is = ap (λ (y : List ℕ). y ∷ xs) one.0; rest_is = sym one.1 }

pub body_next : (body : List ℕ) (made new left : List (List ℕ)) (copy rdata rest : List ℕ)
    (next : IsNext left rdata rest) → body ≡ positive_body (made ++ left) → copy ≡ rdata
    → new ≡ made ++ copy ∷ [] → body ≡ positive_body (new ++ next.behind)
body_next body made new left copy rdata rest next is copied pushed =
    let all : made ++ left ≡ new ++ next.behind =
    ap (λ (x : List (List ℕ)). made ++ x) (next.left_is
    ∙ ap (λ (x : List ℕ). x ∷ next.behind) (sym copied))
    ∙ (sym (append_assoc made (copy ∷ []) next.behind)
    ∙ ap (λ (x : List (List ℕ)). x ++ next.behind) (sym pushed)) in
    is ∙ ap positive_body all

-- The SOA of a body.
module _ (body : List ℕ) (is : IsSoaBody body) where
  pub owner_uncut : (f : FrameFault) → FrameNameFails refusal.BadBody body f → ⊥
  owner_uncut f h = name_or_fault refusal.BadBody is.owner (octets_with_length is.rdata) body f
      is.octets is.named h

  module _ (owner rest : List ℕ) (at : IsPart IsWire body owner rest) where
    pub owner_same : (at.lawful.name ≡ is.owner) × (rest ≡ octets_with_length is.rdata)
    owner_same = name_exact at.lawful.name is.owner rest (octets_with_length is.rdata)
        at.lawful.named is.named (ap (λ (x : List ℕ). x ++ rest) (sym at.lawful.whole)
        ∙ (sym at.whole ∙ is.octets))

    pub soa_uncut : (f : FrameFault) → SizedFails AnyRdata rest f → ⊥
    soa_uncut f h = sized_or_fault AnyRdata is.rdata [] rest f tt
        (owner_same.1 ∙ sym (append-nil (octets_with_length is.rdata))) h

    pub soa_whole : (rdata left : List ℕ) (name : List (List ℕ)) (copy : List ℕ)
        → rest ≡ octets_with_length rdata ++ left → name ≡ at.lawful.name → copy ≡ rdata
        → body ≡ negative_body name copy
    soa_whole rdata left name copy lies named copied =
        let one = sized_exact is.rdata rdata [] left (append-nil (octets_with_length is.rdata)
        ∙ (sym owner_same.1 ∙ lies)) in
        is.octets ∙ (ap (λ (x : List (List ℕ)). negative_body x is.rdata)
        (sym (named ∙ owner_same.0)) ∙ ap (λ (x : List ℕ). negative_body name x)
        (one.0 ∙ sym copied))

-- a body is that of one list of RDATAs
pub one_rdatas : (a b : List (List ℕ)) → positive_body a ≡ positive_body b → a ≡ b
one_rdatas a b e =
    let h = u16_exact (length a) (length b) (flat_map octets_with_length a)
    (flat_map octets_with_length b) e in
    let Any : List (List ℕ) → Type 0 = λ _. Unit {0} in
    (rdatas_same 0 a b [] [] h.0 (align (List ℕ) octets_with_length Any (λ before x more l. tt)
    (λ before x y r s l l' is. sized_exact x y r s is) a b [] [] tt tt
    (ap (λ (x : List ℕ). x ++ []) h.1))).0

-- the values of an entry make an observation
module _ (entry : FrameEntry) (o : ObservationData) (entry_is : IsEntryOf entry o) where
  pub records_lawful : entry.head.kind ≡ Positive → (rdatas : List (List ℕ))
      → entry.body.now ≡ positive_body rdatas → AreRdatas entry.rtype rdatas
  records_lawful kind rdatas is =
      let p = entry_is.lawful.positive (entry_is.kind ∙ kind) in
      let same = one_rdatas p.body.rdatas rdatas (sym p.body.octets ∙ (sym entry_is.body ∙ is)) in
      subst (λ (n : ℕ). AreRdatas n rdatas) entry_is.rtype
      (subst (λ (x : List (List ℕ)). AreRdatas o.rtype x) same p.body.lawful)

  pub records_made : entry.head.kind ≡ Positive → (rdatas : List (List ℕ))
      → entry.body.now ≡ positive_body rdatas → (f : ObservationFault)
      → IsPositiveFault entry.rtype entry.head.rank entry.head.life rdatas f → ⊥
  records_made kind rdatas is f (bad_rank wrong fault_is) =
      wrong (subst (λ (n : ℕ). IsRank n) entry_is.rank entry_is.lawful.rank)
  records_made kind rdatas is f (bad_life r wrong fault_is) =
      wrong (subst (λ (n : ℕ). IsLife LONGEST_LIFE n) entry_is.life entry_is.lawful.life)
  records_made kind rdatas is f (bad_kind r l wrong fault_is) =
      wrong (subst (λ (n : ℕ). IsDataType n) entry_is.rtype
      (entry_is.lawful.positive (entry_is.kind ∙ kind)).typed)
  records_made kind rdatas is f (bad_body r l t wrong fault_is) = wrong (records_lawful kind rdatas is)

  module _ (rtype : Option ℕ) (kind : entry.head.kind ≡ denied_kind rtype)
      (typed : entry.rtype ≡ denied_type rtype) where
    negative : (r : Option ℕ) → entry.head.kind ≡ denied_kind r → IsNegative o
    negative None k = (entry_is.lawful.name_error (entry_is.kind ∙ k)).0
    negative (Some r) k = (entry_is.lawful.no_data (entry_is.kind ∙ k)).0

    denial_of : IsNegative o
    denial_of = negative rtype kind

    type_of : (r : Option ℕ) → entry.head.kind ≡ denied_kind r → entry.rtype ≡ denied_type r
        → IsDeniedType r
    type_of None k t = tt
    type_of (Some r) k t = subst (λ (n : ℕ). IsDataType n) (entry_is.rtype ∙ t)
        (entry_is.lawful.no_data (entry_is.kind ∙ k)).1

    pub denial_made : (name owner : List (List ℕ)) (rdata : List ℕ) → name ≡ o.name → IsName owner
        → entry.body.now ≡ negative_body owner rdata → (f : ObservationFault)
        → IsNegativeFault name rtype entry.head.rank entry.head.life owner rdata f → ⊥
    denial_made name owner rdata named lawful is f (bad_rank wrong fault_is) =
        wrong (subst (λ (n : ℕ). IsDenialRank n) entry_is.rank denial_of.rank)
    denial_made name owner rdata named lawful is f (bad_life r wrong fault_is) =
        wrong (subst (λ (n : ℕ). IsLife LONGEST_DENIAL n) entry_is.life denial_of.life)
    denial_made name owner rdata named lawful is f (bad_kind r l wrong fault_is) =
        wrong (type_of rtype kind typed)
    denial_made name owner rdata named lawful is f (bad_body r l t wrong fault_is) =
        let b = denial_of.body in
        let e : wire b.owner ++ octets_with_length b.rdata ≡ wire owner
        ++ octets_with_length rdata = sym b.octets ∙ (sym entry_is.body ∙ is) in
        let one = name_exact b.owner owner (octets_with_length b.rdata) (octets_with_length rdata)
        b.lawful.named lawful e in
        let two = sized_exact b.rdata rdata [] [] (ap (λ (x : List ℕ). x ++ []) one.1) in
        wrong (record {
          named = lawful;
          under = subst (λ (x : List (List ℕ)). IsUnder x owner) (sym named)
              (subst (λ (x : List (List ℕ)). IsUnder o.name x) one.0 b.lawful.under);
          plain = subst (λ (x : List ℕ). IsPlain SOA x) two.0 b.lawful.plain;
        })
