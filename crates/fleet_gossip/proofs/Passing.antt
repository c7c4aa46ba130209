-- Entries that are known to be at the front of octets.
-- Serves `known_negative_size`, `known_positive_size`, `read_known_entry`, `to_made`.
use Rattle.std.proofs.Common.{◌≡◌, ℕ, ◌+◌, ◌<◌, ◌≤◌, List, [], ◌∷◌, ◌++◌, length, inl, refl, sym, ap, ◌∙◌, subst, arith, length-append, append_assoc}
use Rattle.std.specs.List.{flat_map}
use Rattle.fleet_name.specs.Name.{wire, IsWire}
use Rattle.fleet_wire.specs.Number.{u16_octets, u32_octets}
use Rattle.fleet_observe.specs.declared.observation.kind.Kind.{Kind}
use Rattle.fleet_observe.specs.Body.{octets_with_length, IsPositiveBody, IsNegativeBody}
use Rattle.fleet_observe.specs.Checks.{IsTypeOf}
use Rattle.fleet_observe.specs.Observation.{ObservationData, kind_number}
use Rattle.fleet_observe.proofs.Lemmas.{kind_exact}
use Rattle.fleet_wire.proofs.Lemmas.{u16_exact, u32_exact}
use Rattle.fleet_gossip.specs.Entry.{octet, u64_octets, entry_octets, IsIn, AreIn, AreBodyOctets}
use Rattle.fleet_gossip.specs.Faults.{SizedFails, FrameNameFails, EntryFails}
use Rattle.fleet_gossip.specs.Frame.{entries}
use Rattle.fleet_gossip.specs.steps.Reading.{AnyRdata, IsField, IsHead, IsPart, IsSizeOf}
use Rattle.fleet_gossip.specs.declared.fault.FrameFault.{FrameFault}
use Rattle.fleet_gossip.specs.declared.fault.FrameFault.TheVariants.{BadBody}
use Rattle.fleet_gossip.specs.declared.head.Head.{Head}
use Rattle.fleet_gossip.proofs.Numbers.{octet_exact, u64_exact}
use Rattle.fleet_gossip.proofs.Names.{name_exact, name_or_fault}
use Rattle.fleet_gossip.proofs.Bodies.{sized_exact, sized_or_fault}
use Rattle.fleet_gossip.proofs.Entries.{entry_of, entry_split, entry_or_fault}
use Rattle.fleet_gossip.proofs.Heads.{name_lies}

-- the next of the entries that are left
pub next_there : (version : ℕ) (left : List ObservationData) (octets : List ℕ) → AreIn version left
    → octets ≡ entries left → 0 < length left
    → (o : ObservationData) × (rest : List ℕ) × IsIn version o × (octets ≡ entry_octets o ++ rest)
next_there version [] octets lawful whole some = absurd (omega (arith, some))
next_there version (o ∷ left) octets lawful whole some =
    (o, entries left, lawful o (inl refl), whole)

-- RDATAs that are left, with octets after them
pub record AreLeft (left : List (List ℕ)) (behind octets : List ℕ) : Type 0 where
  pub whole : octets ≡ flat_map octets_with_length left ++ behind

pub next_uncut : (left : List (List ℕ)) (behind octets : List ℕ) → AreLeft left behind octets
    → 0 < length left → (f : FrameFault) → SizedFails AnyRdata octets f → ⊥
next_uncut [] behind octets are some f h = omega (arith, some)
next_uncut (x ∷ xs) behind octets are some f h = sized_or_fault AnyRdata x
    (flat_map octets_with_length xs ++ behind) octets f tt
    (are.whole ∙ append_assoc (octets_with_length x) (flat_map octets_with_length xs) behind) h

pub record IsPassed (left : List (List ℕ)) (behind rest : List ℕ) : Type 0 where
  pub others : List (List ℕ)
  pub fewer : length left ≡ 1 + length others
  pub are : AreLeft others behind rest

pub next_passed : (left : List (List ℕ)) (behind octets rdata rest : List ℕ)
    → AreLeft left behind octets → 0 < length left → octets ≡ octets_with_length rdata ++ rest
    → IsPassed left behind rest
next_passed [] behind octets rdata rest are some lies = absurd (omega (arith, some))
next_passed (x ∷ xs) behind octets rdata rest are some lies =
    let one = sized_exact x rdata (flat_map octets_with_length xs ++ behind) rest
    (sym (are.whole ∙ append_assoc (octets_with_length x) (flat_map octets_with_length xs) behind)
    ∙ lies) in
    record { others = xs; fewer = omega arith; are = record { whole = sym one.1 } }

none_left : (left : List (List ℕ)) (behind octets : List ℕ) → AreLeft left behind octets
    → length left ≤ 0 → octets ≡ behind
none_left [] behind octets are none = are.whole
none_left (x ∷ xs) behind octets are none = absurd (omega (arith, none))

-- A positive body.
module _ (rtype : ℕ) (octets : List ℕ) where
  module _ (size count : ℕ) (rest : List ℕ) (found : IsSizeOf (IsPositiveBody rtype) octets size)
      (read : octets ≡ u16_octets count ++ rest) where
    first : (length found.is.lawful.rdatas ≡ count)
        × (flat_map octets_with_length found.is.lawful.rdatas ++ found.rest ≡ rest)
    first =
        let b = found.is.lawful in
        u16_exact (length b.rdatas) count (flat_map octets_with_length b.rdatas ++ found.rest) rest
        (sym (found.is.whole ∙ ap (λ (x : List ℕ). x ++ found.rest) b.octets) ∙ read)

    pub all_left : AreLeft found.is.lawful.rdatas found.rest rest
    all_left = record { whole = sym first.1 }

    pub counted : length found.is.lawful.rdatas ≡ count
    counted = first.0

  pub rest_within : (size : ℕ) (found : IsSizeOf (IsPositiveBody rtype) octets size)
      (left : List (List ℕ)) (rest : List ℕ) → AreLeft left found.rest rest → length left ≤ 0
      → length rest ≤ length octets
  rest_within size found left rest are none =
      let same = none_left left found.rest rest are none in
      omega (
        arith,
        ap length same,
        ap length found.is.whole,
        length-append found.part found.rest,
      )

  pub positive_passed : (size : ℕ) (found : IsSizeOf (IsPositiveBody rtype) octets size)
      (left : List (List ℕ)) (rest : List ℕ) → AreLeft left found.rest rest → length left ≤ 0
      → (n : ℕ) → n + length rest ≡ length octets → IsSizeOf (IsPositiveBody rtype) octets n
  positive_passed size found left rest are none n sum =
      let same = none_left left found.rest rest are none in
      record {
        part = found.part;
        rest = found.rest;
        is = found.is;
        counted = omega (
          arith,
          sum,
          ap length same,
          ap length found.is.whole,
          length-append found.part found.rest,
        );
      }

-- The body of a denial.
module _ (octets : List ℕ) (n : List (List ℕ)) (size : ℕ)
    (found : IsSizeOf (IsNegativeBody n) octets size) where
  denial_lies : octets ≡ wire found.is.lawful.owner
      ++ (octets_with_length found.is.lawful.rdata ++ found.rest)
  denial_lies =
      let b = found.is.lawful in
      found.is.whole ∙ (ap (λ (x : List ℕ). x ++ found.rest) b.octets
      ∙ append_assoc (wire b.owner) (octets_with_length b.rdata) found.rest)

  pub owner_there : (f : FrameFault) → FrameNameFails BadBody octets f → ⊥
  owner_there f h =
      let b = found.is.lawful in
      name_or_fault BadBody b.owner (octets_with_length b.rdata ++ found.rest) octets f denial_lies
      b.lawful.named h

  module _ (owner behind : List ℕ) (at : IsPart IsWire octets owner behind) where
    behind_owner : behind ≡ octets_with_length found.is.lawful.rdata ++ found.rest
    behind_owner = (name_exact at.lawful.name found.is.lawful.owner behind
        (octets_with_length found.is.lawful.rdata ++ found.rest) at.lawful.named
        found.is.lawful.lawful.named
        (ap (λ (x : List ℕ). x ++ behind) (sym at.lawful.whole) ∙ (sym at.whole ∙ denial_lies))).1

    pub rdata_there : (f : FrameFault) → SizedFails AnyRdata behind f → ⊥
    rdata_there f h = sized_or_fault AnyRdata found.is.lawful.rdata found.rest behind f tt
        behind_owner h

    pub negative_passed : (rdata rest : List ℕ) → behind ≡ octets_with_length rdata ++ rest
        → (k : ℕ) → k + length rest ≡ length octets → IsSizeOf (IsNegativeBody n) octets k
    negative_passed rdata rest lies k sum =
        let one = sized_exact found.is.lawful.rdata rdata found.rest rest
        (sym behind_owner ∙ lies) in
        record {
          part = found.part;
          rest = found.rest;
          is = found.is;
          counted = omega (
            arith,
            sum,
            ap length one.1,
            ap length found.is.whole,
            length-append found.part found.rest,
          );
        }

-- an entry has no fault
pub no_fault : (version : ℕ) (octets : List ℕ) (o : ObservationData) (left : List ℕ)
    → IsIn version o → octets ≡ entry_octets o ++ left → (f : FrameFault)
    → EntryFails version octets f → ⊥
no_fault version octets o left known whole f h =
    entry_or_fault o (entry_of o known.0) left f version known.1 octets whole h

-- An entry, of which the first numbers, the name and the type were read.
module _ (version : ℕ) (octets named part typed : List ℕ) (head : Head)
    (is : IsHead version octets head named)
    (at : IsPart IsWire named part typed) (rest : List ℕ) (rtype : ℕ)
    (t : IsField u16_octets (IsTypeOf head.kind) typed rtype rest)
    (o : ObservationData) (left : List ℕ) (known : IsIn version o)
    (whole : octets ≡ entry_octets o ++ left) where
  numbers : List ℕ → List ℕ
  numbers x = octet (kind_number head.kind)
      ++ (octet head.rank ++ (u64_octets head.stamp ++ (u32_octets head.life ++ x)))

  lies : octets ≡ numbers (wire at.lawful.name ++ (u16_octets rtype ++ rest))
  unfolding numbers
  lies = is.whole ∙ ap numbers (name_lies version octets named part typed head is at
      ∙ ap (λ (x : List ℕ). wire at.lawful.name ++ x) t.whole)

  pub body_there : IsSizeOf (AreBodyOctets head.kind at.lawful.name rtype) rest (length o.body)
  unfolding numbers
  body_there =
      let e = entry_of o known.0 in
      let all = sym lies ∙ (whole ∙ entry_split o left) in
      let number = octet_exact (kind_number head.kind) (kind_number o.kind) _ _ all in
      let kind = kind_exact head.kind o.kind number.0 in
      let rank = octet_exact head.rank o.rank _ _ number.1 in
      let stamp = u64_exact head.stamp o.stamp _ _ rank.1 in
      let life = u32_exact head.life o.life _ _ stamp.1 in
      let name = name_exact at.lawful.name o.name _ _ at.lawful.named e.name life.1 in
      let typed = u16_exact rtype o.rtype _ _ name.1 in
      record {
        part = o.body;
        rest = left;
        is = record {
          whole = typed.1;
          lawful = subst (λ (k : Kind). AreBodyOctets k at.lawful.name rtype o.body) (sym kind)
              (subst (λ (m : List (List ℕ)). AreBodyOctets o.kind m rtype o.body) (sym name.0)
              (subst (λ (r : ℕ). AreBodyOctets o.kind o.name r o.body) (sym typed.0) e.body));
        };
        counted = refl;
      }
