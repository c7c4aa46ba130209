-- Names in full determine their labels, whatever follows them, and have no fault.
-- Serves what `Bodies`, `Entries`, `Making`, `NameSteps`, `Passing` serve.
use Rattle.std.proofs.Common.{◌≡◌, ℕ, List, [], ◌∷◌, ◌++◌, length, refl, sym, ap, ◌∙◌, subst, arith, length-append, append_assoc}
use Rattle.std.proofs.lemmas.Grind.{flat_map-append}
use Rattle.std.specs.List.{flat_map, AllByRecursion}
use Rattle.fleet_name.specs.Name.{label_octets, wire, IsLower, IsLabel, IsName}
use Rattle.fleet_gossip.specs.Faults.{OctetsFail, IsRoom, IsLengthOctet, LabelFails, FrameNameFails, label_fails}
use Rattle.fleet_gossip.specs.declared.fault.FrameFault.{FrameFault}
use Rattle.fleet_name.proofs.Lemmas.{split_same, length-wire-push, label_among}
use Rattle.fleet_gossip.specs.Entry.{octet}
use Rattle.fleet_gossip.proofs.Numbers.{octet_exact, octet_long}
use Rattle.fleet_gossip.proofs.Fields.{field_or_fault, one_field, octets_or_fault, one_octets_fault}
use Rattle.fleet_gossip.proofs.Rows.{Aligned, same, longer, shorter, align, one_row_fault}

pub frame_exact : (a b r s : List ℕ) → label_octets a ++ r ≡ label_octets b ++ s → (a ≡ b) × (r ≡ s)
frame_exact a b r s e =
    let n : length a ≡ length b = cc in
    let t : a ++ r ≡ b ++ s = cc in
    split_same a b r s n t

pub wire-append : (name : List (List ℕ)) (rest : List ℕ)
    → wire name ++ rest ≡ flat_map label_octets name ++ (0 ∷ rest)
wire-append name rest = append_assoc (flat_map label_octets name) (0 ∷ []) rest

all_front : (before : List (List ℕ)) (label : List ℕ) (more : List (List ℕ))
    → AllByRecursion IsLabel (before ++ label ∷ more)
    → AllByRecursion IsLabel (before ++ label ∷ [])
all_front [] label more all = (all.0, tt)
all_front (l ∷ before) label more all = (all.0, all_front before label more all.1)

pub name_front : (before : List (List ℕ)) (label : List ℕ) (more : List (List ℕ))
    → IsName (before ++ label ∷ more) → IsName (before ++ label ∷ [])
name_front before label more named =
    record {
      labels = all_front before label more named.labels;
      fits = omega (
        arith,
        named.fits,
        length-wire-push before label,
        length-append (flat_map label_octets (before ++ label ∷ more)) (0 ∷ []),
        ap length (flat_map-append label_octets before (label ∷ more)),
        length-append (flat_map label_octets before) (flat_map label_octets (label ∷ more)),
        length-append (label_octets label) (flat_map label_octets more),
        length-append (flat_map label_octets before) (0 ∷ []),
      );
    }

label_exact : (before : List (List ℕ)) (x y r s : List ℕ) → IsName (before ++ x ∷ [])
    → IsName (before ++ y ∷ []) → label_octets x ++ r ≡ label_octets y ++ s → (x ≡ y) × (r ≡ s)
label_exact before x y r s l l' e = frame_exact x y r s e

-- a label of a name has room after the others, and is in lower case
pub label_room : (before : List (List ℕ)) (label : List ℕ) → IsName (before ++ label ∷ [])
    → IsRoom before (length label)
label_room before label named =
    let is = label_among before label [] named.labels in
    record {
      some = is.some;
      short = is.short;
      fits = omega (arith, named.fits, length-wire-push before label);
    }

no_label : (before : List (List ℕ)) (label : List ℕ) (more : List (List ℕ)) (rest other : List ℕ)
    → IsName (before ++ label ∷ more) → 0 ∷ rest ≡ label_octets label ++ other → ⊥
no_label before label more rest other named e = let k : 0 ≡ length label = cc
    in omega (arith, k, (label_among before label more named.labels).some)

rows_of : (a b : List (List ℕ)) (r s : List ℕ) → IsName a → IsName b → flat_map label_octets a ++ r
    ≡ flat_map label_octets b ++ s → Aligned (List ℕ) label_octets a b r s
rows_of a b r s named named' e = align (List ℕ) label_octets IsName name_front label_exact a b r s
    named named' e

name_same : (a b : List (List ℕ)) (r s : List ℕ) → IsName a → IsName b
    → Aligned (List ℕ) label_octets a b (0 ∷ r) (0 ∷ s) → (a ≡ b) × (r ≡ s)
name_same a b r s named named' (same e e') = (e, cc)
name_same a b r s named named' (longer y more e e') =
    absurd (no_label a y more r (flat_map label_octets more ++ 0 ∷ s)
    (subst (λ (x : List (List ℕ)). IsName x) e named') e')
name_same a b r s named named' (shorter x more e e') =
    absurd (no_label b x more s (flat_map label_octets more ++ 0 ∷ r)
    (subst (λ (x : List (List ℕ)). IsName x) e named) e')

pub name_exact : (a b : List (List ℕ)) (r s : List ℕ) → IsName a → IsName b
    → wire a ++ r ≡ wire b ++ s → (a ≡ b) × (r ≡ s)
name_exact a b r s named named' e = name_same a b r s named named'
    (rows_of a b (0 ∷ r) (0 ∷ s) named named' (sym (wire-append a r) ∙ (e ∙ wire-append b s)))

-- a name whose labels, where they are not lawful, give the refusal
module _ (refusal : FrameFault) where
  pub label_or_fault : (before : List (List ℕ)) (label rest octets : List ℕ) (f : FrameFault)
      → IsName (before ++ label ∷ []) → octets ≡ label_octets label ++ rest
      → LabelFails refusal before octets f → ⊥
  label_or_fault before label rest octets f named is h =
      let low = (label_among before label [] named.labels).lowered in
      field_or_fault octet 1 (IsLengthOctet before) refusal (OctetsFail IsLower refusal) octet_long
      octet_exact (length label) (label ++ rest) octets f is
      (λ some. label_room before label named) (octets_or_fault IsLower refusal label rest f low)
      h

  pub end_or_fault : (before : List (List ℕ)) (rest octets : List ℕ) (f : FrameFault)
      → octets ≡ 0 ∷ rest → LabelFails refusal before octets f → ⊥
  end_or_fault before rest octets f is h =
      field_or_fault octet 1 (IsLengthOctet before) refusal (OctetsFail IsLower refusal) octet_long
      octet_exact 0 rest octets f is (λ some. absurd (omega (arith, some)))
      (octets_or_fault IsLower refusal [] rest f refl) h

  none_fails : (before name : List (List ℕ)) (r rest : List ℕ) (f : FrameFault) → IsName before
      → IsName name → LabelFails refusal before r f
      → Aligned (List ℕ) label_octets before name r (0 ∷ rest) → ⊥
  none_fails before name r rest f named named' h (same e e') = end_or_fault before rest r f e' h
  none_fails before name r rest f named named' h (longer y more e e') =
      label_or_fault before y (flat_map label_octets more ++ 0 ∷ rest) r f
      (name_front before y more (subst (λ (x : List (List ℕ)). IsName x) e named')) e' h
  none_fails before name r rest f named named' h (shorter x more e e') =
      no_label name x more rest (flat_map label_octets more ++ r)
      (subst (λ (x : List (List ℕ)). IsName x) e named) e'

  pub name_or_fault : (name : List (List ℕ)) (rest octets : List ℕ) (f : FrameFault)
      → octets ≡ wire name ++ rest → IsName name → FrameNameFails refusal octets f → ⊥
  name_or_fault name rest octets f is named (label_fails before r e named' h) =
      none_fails before name r rest f named' named h
      (rows_of before name r (0 ∷ rest) named' named (sym e ∙ (is ∙ wire-append name rest)))

  pub one_label_fault : (before : List (List ℕ)) (octets : List ℕ) (f g : FrameFault)
      → LabelFails refusal before octets f → LabelFails refusal before octets g → f ≡ g
  one_label_fault before octets f g h h' =
      one_field octet 1 (IsLengthOctet before) refusal (OctetsFail IsLower refusal) octet_long
      octet_exact (λ n rest f' g' l k k'. one_octets_fault IsLower refusal n rest f' g' k k')
      octets f g h h'

  pub one_name_fault : (octets : List ℕ) (f g : FrameFault) → FrameNameFails refusal octets f
      → FrameNameFails refusal octets g → f ≡ g
  one_name_fault octets f g (label_fails before r e named h) (label_fails before' r' e' named' h') =
      one_row_fault (List ℕ) label_octets IsName name_front label_exact (LabelFails refusal)
      label_or_fault one_label_fault before before' r r' f g named named' (sym e ∙ e') h h'
