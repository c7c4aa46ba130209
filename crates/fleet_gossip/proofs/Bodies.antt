-- Bodies determine what they hold, whatever follows them, and have no fault.
-- Serves what `BodySteps`, `Entries`, `Making`, `Passing` serve.
use Rattle.std.proofs.Common.{◌≡◌, ◌≢◌, ℕ, ◌+◌, ◌<◌, List, [], ◌∷◌, ◌++◌, length, refl, sym, ap, ◌∙◌, subst, arith, length-append, append_assoc}
use Rattle.std.proofs.lemmas.Grind.{flat_map-append}
use Rattle.std.specs.List.{flat_map}
use Rattle.fleet_name.specs.Name.{wire, IsUnder}
use Rattle.fleet_wire.specs.Number.{u16_octets}
use Rattle.fleet_wire.specs.Shape.{IsPlain}
use Rattle.fleet_wire.specs.declared.rtype.TheConstants.{SOA}
use Rattle.fleet_observe.specs.Members.{IsAscending}
use Rattle.fleet_observe.specs.Body.{octets_with_length, positive_body, negative_body, AreRdatas, IsDenial}
use Rattle.fleet_observe.specs.Checks.{IsCountOf}
use Rattle.fleet_gossip.specs.Entry.{AreFirstRdatas}
use Rattle.fleet_gossip.specs.Faults.{AnyNumber, OctetsFail, SizedFails, RdatasFail, rdata_fails, PositiveFails, NegativeFails, owner_fails, stranger, soa_fails}
use Rattle.fleet_gossip.specs.declared.fault.FrameFault.{FrameFault}
use Rattle.fleet_gossip.specs.declared.fault.FrameFault.TheVariants.{Truncated, BadBody}
use Rattle.fleet_name.proofs.Lemmas.{split_same, has_left}
use Rattle.fleet_wire.proofs.Lemmas.{u16_exact, u16_long}
use Rattle.fleet_gossip.proofs.Fields.{field_or_fault, one_field, octets_or_fault, one_octets_fault}
use Rattle.fleet_gossip.proofs.Rows.{Aligned, same, longer, shorter, align, row_or_fault, one_row_fault}
use Rattle.fleet_gossip.proofs.Names.{name_exact, name_or_fault, one_name_fault}

pub ascending_front : (xs ys : List (List ℕ)) → IsAscending (xs ++ ys) → IsAscending xs
ascending_front [] ys h = tt
ascending_front (x ∷ xs) ys h = (λ y has. h.0 y (has_left xs ys y has), ascending_front xs ys h.1)

pub positive_body-front : (xs ys : List (List ℕ)) → length (positive_body (xs ++ ys))
    ≡ length (positive_body xs) + length (flat_map octets_with_length ys)
positive_body-front xs ys = simp (flat_map-append, length-append) (omega arith)

first_front : (rtype : ℕ) (xs ys : List (List ℕ)) → AreFirstRdatas rtype (xs ++ ys)
    → AreFirstRdatas rtype xs
first_front rtype xs ys l = record {
  ascending = ascending_front xs ys l.ascending;
  plain = λ d h. l.plain d (has_left xs ys d h);
  short = omega (arith, l.short, positive_body-front xs ys);
}

pub rdatas_front : (rtype : ℕ) (before : List (List ℕ)) (d : List ℕ) (more : List (List ℕ))
    → AreFirstRdatas rtype (before ++ d ∷ more) → AreFirstRdatas rtype (before ++ d ∷ [])
rdatas_front rtype before d more l = first_front rtype (before ++ d ∷ []) more
    (subst (λ (x : List (List ℕ)). AreFirstRdatas rtype x) (sym (append_assoc before (d ∷ []) more))
    l)

pub sized_exact : (a b r s : List ℕ) → octets_with_length a ++ r ≡ octets_with_length b ++ s
    → (a ≡ b) × (r ≡ s)
sized_exact a b r s e =
    let h = u16_exact (length a) (length b) (a ++ r) (b ++ s) e in split_same a b r s h.0 h.1

-- RDATA after its length
module _ (Lawful : List ℕ → Type 0) where
  pub sized_or_fault : (d rest octets : List ℕ) (f : FrameFault) → Lawful d
      → octets ≡ octets_with_length d ++ rest → SizedFails Lawful octets f → ⊥
  sized_or_fault d rest octets f l is h =
      field_or_fault u16_octets 2 AnyNumber Truncated (OctetsFail Lawful BadBody) u16_long u16_exact
      (length d) (d ++ rest) octets f is tt (octets_or_fault Lawful BadBody d rest f l) h

  pub one_sized_fault : (octets : List ℕ) (f g : FrameFault) → SizedFails Lawful octets f
      → SizedFails Lawful octets g → f ≡ g
  one_sized_fault octets f g h h' =
      one_field u16_octets 2 AnyNumber Truncated (OctetsFail Lawful BadBody) u16_long u16_exact
      (λ n rest f' g' l k k'. one_octets_fault Lawful BadBody n rest f' g' k k') octets f g h h'

-- the RDATAs of a positive body
module _ (rtype : ℕ) where
  next_or_fault : (before : List (List ℕ)) (d rest octets : List ℕ) (f : FrameFault)
      → AreFirstRdatas rtype (before ++ d ∷ []) → octets ≡ octets_with_length d ++ rest
      → SizedFails (λ rdata. AreFirstRdatas rtype (before ++ rdata ∷ [])) octets f → ⊥
  next_or_fault before d rest octets f l is h =
      sized_or_fault (λ rdata. AreFirstRdatas rtype (before ++ rdata ∷ [])) d rest octets f l is h

  one_next_fault : (before : List (List ℕ)) (octets : List ℕ) (f g : FrameFault)
      → SizedFails (λ rdata. AreFirstRdatas rtype (before ++ rdata ∷ [])) octets f
      → SizedFails (λ rdata. AreFirstRdatas rtype (before ++ rdata ∷ [])) octets g → f ≡ g
  one_next_fault before octets f g h h' = one_sized_fault
      (λ rdata. AreFirstRdatas rtype (before ++ rdata ∷ [])) octets f g h h'

  exact : (before : List (List ℕ)) (x y r s : List ℕ) → AreFirstRdatas rtype (before ++ x ∷ [])
      → AreFirstRdatas rtype (before ++ y ∷ []) → octets_with_length x ++ r ≡ octets_with_length y
      ++ s → (x ≡ y) × (r ≡ s)
  exact before x y r s l l' e = sized_exact x y r s e

  rdatas_or_fault : (rdatas : List (List ℕ)) (rest octets : List ℕ) (f : FrameFault)
      → AreFirstRdatas rtype rdatas → octets ≡ flat_map octets_with_length rdatas ++ rest
      → RdatasFail rtype (length rdatas) octets f → ⊥
  rdatas_or_fault rdatas rest octets f l is (rdata_fails before r e l' few h) =
      row_or_fault (List ℕ) octets_with_length (AreFirstRdatas rtype) (rdatas_front rtype) exact
      (λ b. SizedFails (λ rdata. AreFirstRdatas rtype (b ++ rdata ∷ []))) next_or_fault before
      rdatas r rest f l' l (sym e ∙ is) few h

  one_rdatas_fault : (count : ℕ) (octets : List ℕ) (f g : FrameFault)
      → RdatasFail rtype count octets f → RdatasFail rtype count octets g → f ≡ g
  one_rdatas_fault count octets f g (rdata_fails before r e l few h)
      (rdata_fails before' r' e' l' few' h') =
      one_row_fault (List ℕ) octets_with_length (AreFirstRdatas rtype) (rdatas_front rtype) exact
      (λ b. SizedFails (λ rdata. AreFirstRdatas rtype (b ++ rdata ∷ []))) next_or_fault
      one_next_fault before before' r r' f g l l' (sym e ∙ e') h h'

  pub rdatas_same : (a b : List (List ℕ)) (r s : List ℕ) → length a ≡ length b
      → Aligned (List ℕ) octets_with_length a b r s → (a ≡ b) × (r ≡ s)
  rdatas_same a b r s n (same e e') = (e, e')
  rdatas_same a b r s n (longer y more e e') =
      absurd (omega (arith, n, ap length e, length-append a (y ∷ more)))
  rdatas_same a b r s n (shorter x more e e') =
      absurd (omega (arith, n, ap length e, length-append b (x ∷ more)))

  pub first_of : (rdatas : List (List ℕ)) → AreRdatas rtype rdatas → AreFirstRdatas rtype rdatas
  first_of rdatas l = record { ascending = l.ascending; plain = l.plain; short = l.short }

  pub count_of : (rdatas : List (List ℕ)) → AreRdatas rtype rdatas → IsCountOf rtype (length rdatas)
  count_of rdatas l = (some_of rdatas l.some, l.alone)
    where
      some_of : (xs : List (List ℕ)) → xs ≢ [] → 0 < length xs
      some_of [] h = absurd (h refl)
      some_of (x ∷ xs) h = omega arith

  pub positive_exact : (a b : List (List ℕ)) (r s : List ℕ) → AreRdatas rtype a → AreRdatas rtype b
      → positive_body a ++ r ≡ positive_body b ++ s → (a ≡ b) × (r ≡ s)
  positive_exact a b r s l l' e =
      let h = u16_exact (length a) (length b) (flat_map octets_with_length a ++ r)
      (flat_map octets_with_length b ++ s) e in
      rdatas_same a b r s h.0 (align (List ℕ) octets_with_length (AreFirstRdatas rtype)
      (rdatas_front rtype) exact a b r s (first_of a l) (first_of b l') h.1)

  pub positive_or_fault : (rdatas : List (List ℕ)) (rest octets : List ℕ) (f : FrameFault)
      → AreRdatas rtype rdatas → octets ≡ positive_body rdatas ++ rest
      → PositiveFails rtype octets f → ⊥
  positive_or_fault rdatas rest octets f l is h =
      field_or_fault u16_octets 2 (IsCountOf rtype) BadBody (RdatasFail rtype) u16_long u16_exact
      (length rdatas) (flat_map octets_with_length rdatas ++ rest) octets f is
      (count_of rdatas l) (rdatas_or_fault rdatas rest
      (flat_map octets_with_length rdatas ++ rest) f (first_of rdatas l) refl) h

  pub one_positive_fault : (octets : List ℕ) (f g : FrameFault) → PositiveFails rtype octets f
      → PositiveFails rtype octets g → f ≡ g
  one_positive_fault octets f g h h' =
      one_field u16_octets 2 (IsCountOf rtype) BadBody (RdatasFail rtype) u16_long u16_exact
      (λ n rest f' g' l k k'. one_rdatas_fault n rest f' g' k k') octets f g h h'

-- the SOA of a negative body
module _ (name : List (List ℕ)) where
  split_owner : (owner : List (List ℕ)) (d rest : List ℕ) → negative_body owner d ++ rest
      ≡ wire owner ++ (octets_with_length d ++ rest)
  split_owner owner d rest = append_assoc (wire owner) (octets_with_length d) rest

  pub negative_exact : (o p : List (List ℕ)) (d e r s : List ℕ) → IsDenial name o d
      → IsDenial name p e → negative_body o d ++ r ≡ negative_body p e ++ s
      → (negative_body o d ≡ negative_body p e) × (r ≡ s)
  negative_exact o p d e r s l l' is =
      let whole : wire o ++ (octets_with_length d ++ r) ≡ wire p ++ (octets_with_length e ++ s) =
      sym (split_owner o d r) ∙ (is ∙ split_owner p e s) in
      let h = name_exact o p (octets_with_length d ++ r) (octets_with_length e ++ s) l.named
      l'.named whole in
      let k = sized_exact d e r s h.1 in (
        ap (λ (x : List (List ℕ)). negative_body x d) h.0
            ∙ ap (λ (x : List ℕ). negative_body p x) k.0,
        k.1,
      )

  pub negative_or_fault : (owner : List (List ℕ)) (d rest octets : List ℕ) (f : FrameFault)
      → IsDenial name owner d → octets ≡ negative_body owner d ++ rest → NegativeFails name octets f
      → ⊥
  negative_or_fault owner d rest octets f l is (owner_fails h) =
      name_or_fault BadBody owner (octets_with_length d ++ rest) octets f
      (is ∙ split_owner owner d rest) l.named h
  negative_or_fault owner d rest octets f l is (stranger o r e named unlike e') =
      let h = name_exact owner o (octets_with_length d ++ rest) r l.named named
      (sym (is ∙ split_owner owner d rest) ∙ e) in
      unlike (subst (λ (x : List (List ℕ)). IsUnder name x) h.0 l.under)
  negative_or_fault owner d rest octets f l is (soa_fails o r e named under h) =
      let k = name_exact owner o (octets_with_length d ++ rest) r l.named named
      (sym (is ∙ split_owner owner d rest) ∙ e) in
      sized_or_fault (IsPlain SOA) d rest r f l.plain (sym k.1) h

  pub one_negative_fault : (octets : List ℕ) (f g : FrameFault) → NegativeFails name octets f
      → NegativeFails name octets g → f ≡ g
  one_negative_fault octets f g (owner_fails h) (owner_fails h') =
      one_name_fault BadBody octets f g h h'
  one_negative_fault octets f g (owner_fails h) (stranger o r is named unlike e') =
      absurd (name_or_fault BadBody o r octets f is named h)
  one_negative_fault octets f g (owner_fails h) (soa_fails o r is named under h') =
      absurd (name_or_fault BadBody o r octets f is named h)
  one_negative_fault octets f g (stranger o r is named unlike e) (owner_fails h) =
      absurd (name_or_fault BadBody o r octets g is named h)
  one_negative_fault octets f g (stranger o r is named unlike e)
      (stranger o' r' is' named' unlike' e') = e ∙ sym e'
  one_negative_fault octets f g (stranger o r is named unlike e)
      (soa_fails o' r' is' named' under h) =
      absurd (unlike (subst (λ (x : List (List ℕ)). IsUnder name x)
      (name_exact o' o r' r named' named (sym is' ∙ is)).0 under))
  one_negative_fault octets f g (soa_fails o r is named under h) (owner_fails h') =
      absurd (name_or_fault BadBody o r octets g is named h')
  one_negative_fault octets f g (soa_fails o r is named under h)
      (stranger o' r' is' named' unlike e') =
      absurd (unlike (subst (λ (x : List (List ℕ)). IsUnder name x)
      (name_exact o o' r r' named named' (sym is ∙ is')).0 under))
  one_negative_fault octets f g (soa_fails o r is named under h)
      (soa_fails o' r' is' named' under' h') =
      let k = name_exact o' o r' r named' named (sym is' ∙ is) in
      one_sized_fault (IsPlain SOA) r f g h (subst (λ (x : List ℕ). SizedFails (IsPlain SOA) x g)
      k.1 h')
