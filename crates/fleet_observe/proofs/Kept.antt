-- Which observations are kept, and that these are lawful.
-- Serves `denied_at`, `observations`, `put_denial`, `put_links`, `put_ns`, `put_set`,
-- `rank_of_denial`.
use Rattle.std.proofs.Common.{◌≡◌, ◌≢◌, ℕ, ◌<◌, ◌≤◌, ◌∙◌, ◌⊎◌, inl, inr, Bool, true, false, nat_eq, nat_lt, List, [], ◌∷◌, ◌++◌, length, ap, sym, refl, subst, arith, append_assoc, append-nil, if◌then◌else◌, Option, Some, None}
use Rattle.std.proofs.lemmas.Bool.{cases_Bool}
use Rattle.std.proofs.lemmas.Bool.Decides.{nat_tests}
use Rattle.fleet_name.specs.Name.{labels_of, IsName}
use Rattle.fleet_observe.proofs.Lemmas.{any_rank}
use Rattle.fleet_observe.specs.declared.rank.TheConstants.{OTHER, AUTHORITY, ANSWER}
use Rattle.fleet_observe.specs.declared.observation.fault.ObservationFault.{ObservationFault}
use Rattle.fleet_observe.specs.Members.{Has}
use Rattle.fleet_observe.specs.Body.{positive_body}
use Rattle.fleet_observe.specs.Observation.{ObservationData, IsObservation, AreObservations, IsRank, IsDenialRank, IsDataType, kind_number}
use Rattle.fleet_observe.specs.Checks.{IsNegativeFault, IsDeniedType, bad_rank, bad_life, bad_kind, bad_body}
use Rattle.fleet_observe.specs.RrSet.{RrSetData, SpellsName}
use Rattle.fleet_observe.specs.Soa.{SoaData}
use Rattle.fleet_observe.specs.Digest.{EndData, Records, NoData, NxDomain, Code, Truncated, DigestData, denied_by, target_of, first_or, IsLawfulSet, IsLawfulLink, IsLawfulSoa, IsLawful, IsLawfulEnd}
use Rattle.fleet_observe.specs.Observations.{living_observation, fitting_observation, set_observation, soa_observation, positive_observations, denial_observations, answer_rank, denial_rank, link_observations, end_observations, ns_observations, reply_observations}
use Rattle.fleet_name.proofs.Lemmas.{has_either}
use Rattle.fleet_observe.proofs.Spelling.{plain_alias}
use Rattle.fleet_wire.specs.declared.rtype.TheConstants.{CNAME}
use Rattle.fleet_observe.specs.declared.bounds.TheConstants.{LATEST, LONGEST_BODY, LONGEST_DENIAL, LONGEST_LIFE}
use Rattle.fleet_observe.specs.declared.observation.kind.Kind.{Kind}
use Rattle.fleet_observe.specs.declared.observation.kind.Kind.TheVariants.{NameError, NoData as KindNoData}

living_is : (f : ObservationData) → ¬ (f.life ≡ 0) → living_observation f ≡ f ∷ []
living_is f some = let a : nat_eq f.life 0 ≡ false = grind (arith, nat_tests) in rw a refl

fitting_is : (f : ObservationData) → length f.body ≤ LONGEST_BODY
    → fitting_observation f ≡ living_observation f
fitting_is f fits = let a : nat_lt LONGEST_BODY (length f.body) ≡ false =
    grind (arith, nat_tests) in rw a refl

oversize_is : (f : ObservationData) → LONGEST_BODY < length f.body → fitting_observation f ≡ []
oversize_is f over = let a : nat_lt LONGEST_BODY (length f.body) ≡ true =
    grind (arith, nat_tests) in rw a refl

-- an RRset's observation is kept where it can be made
pub positive_kept : (x : RrSetData) (rank stamp : ℕ) → 1 ≤ x.ttl
    → length (positive_body x.rdatas) ≤ LONGEST_BODY
    → positive_observations x rank stamp ≡ set_observation x rank stamp ∷ []
positive_kept x rank stamp some fits =
    fitting_is (set_observation x rank stamp) fits ∙ living_is (set_observation x rank stamp)
    (λ e. absurd (omega (arith, e, some)))

over_or : (n : ℕ) → (n ≤ LONGEST_BODY) ⊎ (LONGEST_BODY < n)
over_or n = elim (cases_Bool (nat_lt LONGEST_BODY n)) [
  | inl k ↦ inr (over n k)
  | inr k ↦
      inl (within n k)
]
  where
    over : (n : ℕ) → nat_lt LONGEST_BODY n ≡ true → LONGEST_BODY < n
    over n k = grind (arith, nat_tests)

    within : (n : ℕ) → nat_lt LONGEST_BODY n ≡ false → n ≤ LONGEST_BODY
    within n k = grind (arith, nat_tests)

-- a denial's observation is kept where it can be made
pub negative_kept : (kind : Kind) (n : List (List ℕ)) (t rank stamp : ℕ) (x : SoaData) → 1 ≤ x.ttl
    → denial_observations kind n t rank stamp (Some x) ≡ soa_observation kind n t rank stamp x ∷ []
negative_kept kind n t rank stamp x some = living_is (soa_observation kind n t rank stamp x)
    (λ e. absurd (omega (arith, e, some)))

-- a denial of a live SOA can be made
pub negative_made : (fault : ObservationFault) (n : List (List ℕ)) (rtype : Option ℕ) (rank : ℕ)
    (x : SoaData) → 1 ≤ x.ttl → IsLawfulSoa n x → IsDenialRank rank → IsDeniedType rtype
    → ¬ IsNegativeFault n rtype rank x.ttl x.owner x.rdata fault
negative_made fault n rtype rank x some is ranked typed (bad_rank wrong fault_is) = wrong ranked
negative_made fault n rtype rank x some is ranked typed (bad_life r wrong fault_is) =
    wrong (some, is.ttl)
negative_made fault n rtype rank x some is ranked typed (bad_kind r l wrong fault_is) = wrong typed
negative_made fault n rtype rank x some is ranked typed (bad_body r l t wrong fault_is) =
    wrong (record { named = is.owner; under = is.under; plain = is.plain })

pub link_observations-push : (aa : Bool) (q : List (List ℕ)) (stamp : ℕ) (xs : List RrSetData)
    (x : RrSetData) → link_observations aa q stamp (xs ++ x ∷ []) ≡ link_observations aa q stamp xs
    ++ positive_observations x (answer_rank aa q x.name) stamp
link_observations-push aa q stamp [] x =
    append-nil (positive_observations x (answer_rank aa q x.name) stamp)
link_observations-push aa q stamp (y ∷ xs) x =
    ap (λ (t : List ObservationData). positive_observations y (answer_rank aa q y.name) stamp ++ t)
    (link_observations-push aa q stamp xs x)
    ∙ sym (append_assoc (positive_observations y (answer_rank aa q y.name) stamp)
    (link_observations aa q stamp xs) (positive_observations x (answer_rank aa q x.name) stamp))

pub ns_observations-push : (stamp : ℕ) (xs : List RrSetData) (x : RrSetData)
    → ns_observations stamp (xs ++ x ∷ []) ≡ ns_observations stamp xs ++ positive_observations x
    AUTHORITY stamp
ns_observations-push stamp [] x = append-nil (positive_observations x AUTHORITY stamp)
ns_observations-push stamp (y ∷ xs) x =
    ap (λ (t : List ObservationData). positive_observations y AUTHORITY stamp ++ t)
    (ns_observations-push stamp xs x)
    ∙ sym (append_assoc (positive_observations y AUTHORITY stamp) (ns_observations stamp xs)
    (positive_observations x AUTHORITY stamp))

pub denied_by-push : (n : List (List ℕ)) (xs : List RrSetData) (x : RrSetData)
    → denied_by n (xs ++ x ∷ []) ≡ target_of (denied_by n xs) x.rdatas
denied_by-push n [] x = refl
denied_by-push n (y ∷ xs) x = denied_by-push (target_of n y.rdatas) xs x

pub labels_of-first_or : (octets : List ℕ) (ds : List (List ℕ))
    → labels_of (first_or octets ds) ≡ target_of (labels_of octets) ds
labels_of-first_or octets [] = refl
labels_of-first_or octets (d ∷ ds) = refl

first_spelled : (octets : List ℕ) (t : ℕ) (ds : List (List ℕ)) (x : RrSetData) → SpellsName octets
    → IsLawfulLink x → x.rdatas ≡ ds → SpellsName (first_or octets ds)
first_spelled octets t [] x s link e = s
first_spelled octets t (d ∷ ds) x s link e = plain_alias d
    (rw link.alias at (link.set.plain d (rw e (inl refl))))

-- past one more link there is a name again
pub link_spelled : (octets : List ℕ) (x : RrSetData) → SpellsName octets → IsLawfulLink x
    → SpellsName (first_or octets x.rdatas)
link_spelled octets x s link = first_spelled octets CNAME x.rdatas x s link refl

-- the observations are lawful
living_kept : (f : ObservationData) (o : ObservationData) → Has (living_observation f) o
    → (f ≡ o) × (¬ (f.life ≡ 0))
living_kept f o h = elim (cases_Bool (nat_eq f.life 0)) [
  | inl k ↦ let nowhere = rw k at h in absurd nowhere
  | inr k ↦ elim (rw k at h) [ inl e ↦ (e, some f.life k) | inr nowhere ↦ absurd nowhere ]
]
  where
    some : (n : ℕ) → nat_eq n 0 ≡ false → ¬ (n ≡ 0)
    some n k e = grind (arith, nat_tests)

fitting_kept : (f : ObservationData) (o : ObservationData) → Has (fitting_observation f) o
    → (f ≡ o) × (¬ (f.life ≡ 0)) × (length f.body ≤ LONGEST_BODY)
fitting_kept f o h = elim (over_or (length f.body)) [
  | inl fits ↦ let k = living_kept f o (rw (fitting_is f fits) at h) in (k.0, k.1, fits)
  | inr over ↦ let nowhere = rw (oversize_is f over) at h in absurd nowhere
]

module _ (stamp : ℕ) (stamped : stamp ≤ LATEST) where
  set_lawful : (x : RrSetData) (rank : ℕ) → IsLawfulSet x → IsRank rank → ¬ (x.ttl ≡ 0)
      → length (positive_body x.rdatas) ≤ LONGEST_BODY
      → IsObservation (set_observation x rank stamp)
  set_lawful x rank is ranked some fits = record {
    named = is.name;
    rank = ranked;
    stamped = stamped;
    life = (some_life x.ttl some, is.ttl);
    positive = λ _. record {
      typed = is.typed;
      body = record {
        rdatas = x.rdatas;
        lawful = record {
          some = is.some;
          ascending = is.ascending;
          plain = is.plain;
          alone = is.alone;
          short = fits;
        };
        octets = refl;
      };
    };
    no_data = λ e. absurd (omega (arith, ap kind_number e));
    name_error = λ e. absurd (omega (arith, ap kind_number e));
    flush = λ e. absurd (omega (arith, ap kind_number e));
  }
    where
      some_life : (n : ℕ) → ¬ (n ≡ 0) → 1 ≤ n
      some_life n some = omega (arith, some)

  positive_lawful : (x : RrSetData) (rank : ℕ) → IsLawfulSet x → IsRank rank
      → AreObservations (positive_observations x rank stamp)
  positive_lawful x rank is ranked o h = let k = fitting_kept (set_observation x rank stamp) o h in
      subst IsObservation k.0 (set_lawful x rank is ranked k.1 k.2)

  some_life' : (n : ℕ) → ¬ (n ≡ 0) → 1 ≤ n
  some_life' n some = omega (arith, some)

  day_life : (n : ℕ) → n ≤ LONGEST_DENIAL → n ≤ LONGEST_LIFE
  day_life n h = omega arith

  no_data_lawful : (n : List (List ℕ)) (t rank : ℕ) (soa : Option SoaData) → IsName n
      → IsDataType t → IsDenialRank rank → IsLawfulEnd n (NoData soa)
      → AreObservations (denial_observations KindNoData n t rank stamp soa)
  no_data_lawful n t rank None named typed ranked is o h = absurd h
  no_data_lawful n t rank (Some x) named typed ranked is o h =
      let k = living_kept (soa_observation KindNoData n t rank stamp x) o h in
      subst IsObservation k.0 (record {
        named = named;
        rank = any_rank rank ranked;
        stamped = stamped;
        life = (some_life' x.ttl k.1, day_life x.ttl is.ttl);
        positive = λ e. absurd (omega (arith, ap kind_number e));
        no_data = λ _. (
          record {
            rank = ranked;
            life = (some_life' x.ttl k.1, is.ttl);
            body = record {
              owner = x.owner;
              rdata = x.rdata;
              lawful = record {
                named = is.owner;
                under = is.under;
                plain = is.plain;
              };
              octets = refl;
            };
          },
          typed,
        );
        name_error = λ e. absurd (omega (arith, ap kind_number e));
        flush = λ e. absurd (omega (arith, ap kind_number e));
      })

  name_error_lawful : (n : List (List ℕ)) (rank : ℕ) (soa : Option SoaData) → IsName n
      → IsDenialRank rank → IsLawfulEnd n (NxDomain soa)
      → AreObservations (denial_observations NameError n 0 rank stamp soa)
  name_error_lawful n rank None named ranked is o h = absurd h
  name_error_lawful n rank (Some x) named ranked is o h =
      let k = living_kept (soa_observation NameError n 0 rank stamp x) o h in
      subst IsObservation k.0 (record {
        named = named;
        rank = any_rank rank ranked;
        stamped = stamped;
        life = (some_life' x.ttl k.1, day_life x.ttl is.ttl);
        positive = λ e. absurd (omega (arith, ap kind_number e));
        no_data = λ e. absurd (omega (arith, ap kind_number e));
        name_error = λ _. (
          record {
            rank = ranked;
            life = (some_life' x.ttl k.1, is.ttl);
            body = record {
              owner = x.owner;
              rdata = x.rdata;
              lawful = record {
                named = is.owner;
                under = is.under;
                plain = is.plain;
              };
              octets = refl;
            };
          },
          refl,
        );
        flush = λ e. absurd (omega (arith, ap kind_number e));
      })

  answer_ranked : (aa : Bool) (q owner : List (List ℕ)) → IsRank (answer_rank aa q owner)
  answer_ranked aa q owner = ranked (_)
    where
      ranked : (b : Bool) → IsRank (if b then ANSWER else OTHER)
      ranked true = (omega arith, omega arith)
      ranked false = (omega arith, omega arith)

  denial_ranked : (aa : Bool) (chain : List RrSetData) → IsDenialRank (denial_rank aa chain)
  denial_ranked true [] = inr refl
  denial_ranked false [] = inl refl
  denial_ranked aa (x ∷ xs) = inl refl

  link_lawful : (aa : Bool) (q : List (List ℕ)) (chain : List RrSetData)
      → ((x : RrSetData) → Has chain x → IsLawfulLink x)
      → AreObservations (link_observations aa q stamp chain)
  link_lawful aa q [] is o h = absurd h
  link_lawful aa q (x ∷ xs) is o h =
      elim (has_either (positive_observations x (answer_rank aa q x.name) stamp)
      (link_observations aa q stamp xs) o h) [
        | inl a ↦ positive_lawful x (answer_rank aa q x.name) (is x (inl refl)).set
            (answer_ranked aa q x.name) o a
        | inr b ↦ link_lawful aa q xs (λ y k. is y (inr k)) o b
      ]

  ns_lawful : (sets : List RrSetData) → ((x : RrSetData) → Has sets x → IsLawfulSet x)
      → AreObservations (ns_observations stamp sets)
  ns_lawful [] is o h = absurd h
  ns_lawful (x ∷ xs) is o h = elim (has_either (positive_observations x AUTHORITY stamp)
      (ns_observations stamp xs) o h) [
        | inl a ↦ positive_lawful x 2 (is x (inl refl)) (omega arith, omega arith) o a
        | inr b ↦ ns_lawful xs (λ y k. is y (inr k)) o b
      ]

  end_lawful : (d : DigestData) (e : EndData) → IsName (denied_by d.name d.chain)
      → IsDataType d.rtype → IsLawfulEnd (denied_by d.name d.chain) e
      → AreObservations (end_observations d stamp e)
  end_lawful d (Records x) named typed is = positive_lawful x (answer_rank d.aa d.name x.name)
      is (answer_ranked d.aa d.name x.name)
  end_lawful d (NoData soa) named typed is = no_data_lawful (denied_by d.name d.chain) d.rtype
      (denial_rank d.aa d.chain) soa named typed (denial_ranked d.aa d.chain) is
  end_lawful d (NxDomain soa) named typed is = name_error_lawful (denied_by d.name d.chain)
      (denial_rank d.aa d.chain) soa named (denial_ranked d.aa d.chain) is
  end_lawful d (Code c) named typed is = λ o h. absurd h
  end_lawful d Truncated named typed is = λ o h. absurd h

target_named : (n : List (List ℕ)) (x : RrSetData) (ds : List (List ℕ)) → IsName n → IsLawfulLink x
    → x.rdatas ≡ ds → IsName (target_of n ds)
target_named n x [] named link e = named
target_named n x (d ∷ ds) named link e =
    (plain_alias d (rw link.alias at (link.set.plain d (rw e (inl refl))))).named

denied_named : (n : List (List ℕ)) (chain : List RrSetData) → IsName n
    → ((x : RrSetData) → Has chain x → IsLawfulLink x) → IsName (denied_by n chain)
denied_named n [] named is = named
denied_named n (x ∷ xs) named is = denied_named (target_of n x.rdatas) xs
    (target_named n x x.rdatas named (is x (inl refl)) refl) (λ y h. is y (inr h))

-- what is observed of a lawful digest is lawful
pub observed_lawful : (d : DigestData) (stamp : ℕ) → IsLawful d → stamp ≤ LATEST
    → AreObservations (reply_observations d stamp)
observed_lawful d stamp is stamped o h =
    elim (has_either (link_observations d.aa d.name stamp d.chain) (end_observations d stamp d.end
    ++ ns_observations stamp d.ns) o h) [
      | inl a ↦ link_lawful stamp stamped d.aa d.name d.chain is.chain o a
      | inr rest ↦ elim (has_either (end_observations d stamp d.end) (ns_observations stamp d.ns) o
          rest) [
            | inl b ↦ end_lawful stamp stamped d d.end (denied_named d.name d.chain is.name is.chain)
                is.typed is.end_is o b
            | inr c ↦ ns_lawful stamp stamped d.ns is.ns o c
          ]
    ]

pub rank_some : (aa : Bool) (xs : List RrSetData) → 0 < length xs → denial_rank aa xs ≡ 1
rank_some aa [] some = absurd (omega arith)
rank_some aa (x ∷ xs) some = refl

-- what has something in it is something
pub some_front : (xs ys : List ObservationData) → xs ≢ [] → xs ++ ys ≢ []
some_front [] ys some = absurd (some refl)
some_front (x ∷ xs) ys some = λ e. cc

pub some_back : (xs ys : List ObservationData) → ys ≢ [] → xs ++ ys ≢ []
some_back [] ys some = some
some_back (x ∷ xs) ys some = λ e. cc

-- of an RRset that is observed there is an observation
pub positive_some : (x : RrSetData) (rank stamp : ℕ) → (1 ≤ x.ttl)
    × (length (positive_body x.rdatas) ≤ LONGEST_BODY) → positive_observations x rank stamp ≢ []
positive_some x rank stamp is = rw (positive_kept x rank stamp is.0 is.1) (λ e. cc)

pub negative_some : (kind : Kind) (n : List (List ℕ)) (t rank stamp : ℕ) (x : SoaData) → 1 ≤ x.ttl
    → denial_observations kind n t rank stamp (Some x) ≢ []
negative_some kind n t rank stamp x some = rw (negative_kept kind n t rank stamp x some) (λ e. cc)

pub link_some : (aa : Bool) (q : List (List ℕ)) (stamp : ℕ) (chain : List RrSetData)
    (x : RrSetData) → Has chain x → positive_observations x (answer_rank aa q x.name) stamp ≢ []
    → link_observations aa q stamp chain ≢ []
link_some aa q stamp [] x has some = absurd has
link_some aa q stamp (y ∷ ys) x (inl e) some = some_front _ _
    (subst (λ (z : RrSetData). positive_observations z (answer_rank aa q z.name) stamp ≢ [])
    (sym e) some)
link_some aa q stamp (y ∷ ys) x (inr h) some = some_back _ _ (link_some aa q stamp ys x h some)

pub ns_some : (stamp : ℕ) (sets : List RrSetData) (x : RrSetData) → Has sets x
    → positive_observations x AUTHORITY stamp ≢ [] → ns_observations stamp sets ≢ []
ns_some stamp [] x has some = absurd has
ns_some stamp (y ∷ ys) x (inl e) some = some_front _ _
    (subst (λ (z : RrSetData). positive_observations z AUTHORITY stamp ≢ []) (sym e) some)
ns_some stamp (y ∷ ys) x (inr h) some = some_back _ _ (ns_some stamp ys x h some)
