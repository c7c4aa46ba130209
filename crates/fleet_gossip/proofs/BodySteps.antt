-- The steps of reading a body.
-- Serves `is_next`, `negative_size`, `positive_size`, `read_owner`, `read_rdatas`, `read_sized`.
use Rattle.std.proofs.Common.{◌≡◌, ℕ, ◌+◌, ◌<◌, ◌≤◌, inl, inr, List, [], ◌∷◌, ◌++◌, length, refl, sym, ap, ◌∙◌, subst, arith, length-append, append_assoc}
use Rattle.std.specs.declared.cmp.Ordering.TheVariants.{Less}
use Rattle.std.specs.Ordering.{nat_cmp}
use Rattle.std.specs.Cmp.Lexicographic.{slice_cmp}
use Rattle.std.proofs.lemmas.Cmp.{nat_list_cmp_total}
use Rattle.std.proofs.lemmas.List.{append-nil}
use Rattle.std.specs.List.{flat_map}
use Rattle.fleet_name.specs.Name.{wire, IsUnder, IsWire}
use Rattle.fleet_wire.specs.Number.{u16_octets}
use Rattle.fleet_wire.specs.Shape.{IsPlain}
use Rattle.fleet_wire.specs.declared.rtype.TheConstants.{SOA}
use Rattle.fleet_observe.specs.Members.{Has, IsAscending}
use Rattle.fleet_observe.specs.Body.{octets_with_length, positive_body, negative_body, IsPositiveBody, IsNegativeBody}
use Rattle.fleet_observe.specs.Checks.{IsCountOf}
use Rattle.fleet_observe.specs.declared.bounds.TheConstants.{LONGEST_BODY}
use Rattle.fleet_gossip.specs.Entry.{AreFirstRdatas}
use Rattle.fleet_gossip.specs.Faults.{cut, refused, behind, OctetsFail, cut_octets, refused_octets, SizedFails, RdatasFail, rdata_fails, NegativeFails, stranger, soa_fails}
use Rattle.fleet_gossip.specs.steps.Reading.{AreMissing, IsSplitAfter, AnyRdata, ComesAfterLast, IsPart, IsSizeOf, AreFirstOf, IsOwnerOf}
use Rattle.fleet_gossip.specs.declared.fault.FrameFault.{FrameFault}
use Rattle.fleet_gossip.specs.declared.fault.FrameFault.TheVariants.{BadBody}
use Rattle.fleet_name.proofs.Lemmas.{has_right, has_either}
use Rattle.fleet_gossip.proofs.Bodies.{positive_body-front}

module _ (octets middle : List ℕ) (n count : ℕ) (is : octets ≡ u16_octets n ++ middle)
    (same : count ≡ n) where
  pub sized_taken : (taken rest : List ℕ) → IsSplitAfter middle count taken rest
      → octets ≡ octets_with_length taken ++ rest
  sized_taken taken rest h = is ∙ (ap (λ (x : List ℕ). u16_octets n ++ x) h.whole
      ∙ ap (λ (k : ℕ). u16_octets k ++ (taken ++ rest)) (sym (h.counted ∙ same)))

  pub sized_cut : (f : FrameFault) → AreMissing count middle f → SizedFails AnyRdata octets f
  sized_cut f h = behind n middle is tt (cut_octets (subst (λ (k : ℕ). length middle < k) same h.0)
      h.1)

-- where octets are missing, they are whatever RDATA is asked for
rdata_cut : (Lawful : List ℕ → Type 0) (n : ℕ) (octets : List ℕ) (f : FrameFault)
    → OctetsFail AnyRdata BadBody n octets f → OctetsFail Lawful BadBody n octets f
rdata_cut Lawful n octets f (cut_octets short e) = cut_octets short e
rdata_cut Lawful n octets f (refused_octets d rest is m unlike e) = absurd (unlike tt)

pub sized_any : (Lawful : List ℕ → Type 0) (octets : List ℕ) (f : FrameFault)
    → SizedFails AnyRdata octets f → SizedFails Lawful octets f
sized_any Lawful octets f (cut short e) = cut short e
sized_any Lawful octets f (refused n rest is unlike e) = absurd (unlike tt)
sized_any Lawful octets f (behind n rest is any h) =
    behind n rest is any (rdata_cut Lawful n rest f h)

the_one : (x y : List ℕ) → Has (x ∷ []) y → x ≡ y
the_one x y (inl e) = e
the_one x y (inr h) = absurd h

abbrev IsBelow : List ℕ → List ℕ → Type 0
IsBelow x y = slice_cmp nat_cmp x y ≡ Less

above_rest : (x : List ℕ) (xs : List (List ℕ)) (d : List ℕ) → ComesAfterLast (x ∷ xs) d → ComesAfterLast xs d
above_rest x xs d h = λ before last e. h (x ∷ before) last (ap (λ (zs : List (List ℕ)). x ∷ zs) e)

ascending_push : (xs : List (List ℕ)) (d : List ℕ) → IsAscending xs → ComesAfterLast xs d
    → IsAscending (xs ++ d ∷ [])
ascending_push [] d all above = (λ y h. absurd h, tt)
ascending_push (x ∷ []) d all above = (
  λ y h. subst (λ (z : List ℕ). IsBelow x z) (the_one d y h) (above [] x refl),
  (λ y h. absurd h, tt),
)
ascending_push (x ∷ y ∷ xs) d all above =
    let rest = ascending_push (y ∷ xs) d all.1 (above_rest x (y ∷ xs) d above) in
    let under : IsBelow x d = nat_list_cmp_total.trans x y d (all.0 y (inl refl))
    (rest.0 d (has_right xs (d ∷ []) d (inl refl))) in (
      λ z h. elim (has_either (y ∷ xs) (d ∷ []) z h) [
        | inl k ↦ all.0 z k
        | inr e ↦
            subst (λ (w : List ℕ). IsBelow x w) (the_one d z e) under
      ],
      rest,
    )

last_below : (before : List (List ℕ)) (last d : List ℕ)
    → IsAscending ((before ++ last ∷ []) ++ d ∷ []) → IsBelow last d
last_below [] last d all = all.0 d (inl refl)
last_below (x ∷ before) last d all = last_below before last d all.1

pub above_from : (xs : List (List ℕ)) (d : List ℕ) → IsAscending (xs ++ d ∷ []) → ComesAfterLast xs d
above_from xs d all = λ before last e. last_below before last d
    (subst (λ (zs : List (List ℕ)). IsAscending (zs ++ d ∷ [])) e all)

pub positive_body-push : (xs : List (List ℕ)) (d : List ℕ) → length (positive_body (xs ++ d ∷ []))
    ≡ length (positive_body xs) + 2 + length d
positive_body-push xs d = omega (
  arith,
  positive_body-front xs (d ∷ []),
  ap length (append-nil (octets_with_length d)),
)

pub next_from : (rtype : ℕ) (xs : List (List ℕ)) (d : List ℕ) (size : ℕ) → AreFirstRdatas rtype xs
    → size ≡ length (positive_body xs) → ComesAfterLast xs d → IsPlain rtype d
    → size + 2 + length d ≤ LONGEST_BODY → AreFirstRdatas rtype (xs ++ d ∷ [])
next_from rtype xs d size first n above plain fits = record {
  ascending = ascending_push xs d first.ascending above;
  plain = λ y h. elim (has_either xs (d ∷ []) y h) [
    | inl k ↦ first.plain y k
    | inr e ↦
        subst (λ (z : List ℕ). IsPlain rtype z) (the_one d y e) plain
  ];
  short = omega (arith, positive_body-push xs d, n, fits);
}

pub next_plain : (rtype : ℕ) (xs : List (List ℕ)) (d : List ℕ) → AreFirstRdatas rtype (xs ++ d ∷ [])
    → IsPlain rtype d
next_plain rtype xs d first = first.plain d (has_right xs (d ∷ []) d (inl refl))

-- the fault of the next RDATA is one of them all
module _ (rtype count : ℕ) (octets left : List ℕ) (xs : List (List ℕ))
    (first : AreFirstRdatas rtype xs) (is : octets ≡ flat_map octets_with_length xs ++ left)
    (few : length xs < count) where
  pub next_cut : (f : FrameFault) → SizedFails AnyRdata left f → RdatasFail rtype count octets f
  next_cut f h = rdata_fails xs left is first few
      (sized_any (λ rdata. AreFirstRdatas rtype (xs ++ rdata ∷ [])) left f h)

  pub next_refused : (d rest : List ℕ) → left ≡ octets_with_length d ++ rest
      → (AreFirstRdatas rtype (xs ++ d ∷ []) → ⊥) → RdatasFail rtype count octets BadBody
  next_refused d rest lies unlike = rdata_fails xs left is first few
      (behind (length d) (d ++ rest) lies tt (refused_octets d rest refl refl unlike refl))

-- the RDATAs that were read make the body of a positive observation
pub positive_found : (rtype count long : ℕ) (octets middle rest : List ℕ)
    → octets ≡ u16_octets count ++ middle → IsCountOf rtype count
    → AreFirstOf rtype count middle long rest → IsSizeOf (IsPositiveBody rtype) octets long
positive_found rtype count long octets middle rest is counted first =
    let rdatas = first.rdatas in
    record {
      part = positive_body rdatas;
      rest = rest;
      is = record {
        whole = is ∙ (ap (λ (n : ℕ). u16_octets n ++ middle) (sym first.counted)
            ∙ ap (λ (x : List ℕ). u16_octets (length rdatas) ++ x) first.whole);
        lawful = record {
          rdatas = rdatas;
          lawful = record {
            some = λ e. omega (arith, counted.0, first.counted, ap length e);
            ascending = first.lawful.ascending;
            plain = first.lawful.plain;
            alone = λ e. first.counted ∙ counted.1 e;
            short = first.lawful.short;
          };
          octets = refl;
        };
      };
      counted = first.size;
    }

-- the SOA of a negative body, after its owner
module _ (name : List (List ℕ)) (octets part left : List ℕ)
    (at : IsPart (IsOwnerOf name) octets part left) where
  owner_lies : octets ≡ wire at.lawful.owner ++ left
  owner_lies = at.whole ∙ ap (λ (x : List ℕ). x ++ left) at.lawful.whole

  pub soa_cut : (f : FrameFault) → SizedFails AnyRdata left f → NegativeFails name octets f
  soa_cut f h = soa_fails at.lawful.owner left owner_lies at.lawful.named at.lawful.under
      (sized_any (IsPlain SOA) left f h)

  pub soa_refused : (d rest : List ℕ) → left ≡ octets_with_length d ++ rest → (IsPlain SOA d → ⊥)
      → NegativeFails name octets BadBody
  soa_refused d rest lies unlike = soa_fails at.lawful.owner left owner_lies at.lawful.named
      at.lawful.under (behind (length d) (d ++ rest) lies tt
      (refused_octets d rest refl refl unlike refl))

  pub negative_found : (d rest : List ℕ) (size : ℕ) → left ≡ octets_with_length d ++ rest
      → IsPlain SOA d → size ≡ length part + 2 + length d
      → IsSizeOf (IsNegativeBody name) octets size
  negative_found d rest size lies plain n =
      let owner = at.lawful.owner in
      record {
        part = negative_body owner d;
        rest = rest;
        is = record {
          whole = owner_lies ∙ (ap (λ (x : List ℕ). wire owner ++ x) lies
              ∙ sym (append_assoc (wire owner) (octets_with_length d) rest));
          lawful = record {
            owner = owner;
            rdata = d;
            lawful = record { named = at.lawful.named; under = at.lawful.under; plain = plain };
            octets = refl;
          };
        };
        counted = omega (
          arith,
          n,
          ap length at.lawful.whole,
          length-append (wire owner) (octets_with_length d),
        );
      }

-- the owner of a denial's SOA
module _ (name : List (List ℕ)) (octets owner rest : List ℕ)
    (at : IsPart IsWire octets owner rest) where
  owner_spelled : octets ≡ wire at.lawful.name ++ rest
  owner_spelled = at.whole ∙ ap (λ (x : List ℕ). x ++ rest) at.lawful.whole

  pub owner_stranger : (IsUnder name at.lawful.name → ⊥) → NegativeFails name octets BadBody
  owner_stranger unlike = stranger at.lawful.name rest owner_spelled at.lawful.named unlike refl
