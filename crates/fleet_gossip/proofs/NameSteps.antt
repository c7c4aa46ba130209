-- The steps of reading a name.
-- Serves `name_size`, `read_label`.
use Rattle.std.proofs.lemmas.Bool.Decides.{nat_tests}
use Rattle.std.specs.Prelude.{nat_eq}
use Rattle.std.proofs.Common.{true, false, ◌≡◌, ℕ, ◌+◌, ◌<◌, ◌≤◌, ◌⊎◌, List, [], ◌∷◌, ◌++◌, length, refl, sym, ap, ◌∙◌, subst, arith, append_assoc}
use Rattle.std.proofs.lemmas.Grind.{flat_map-append}
use Rattle.std.proofs.lemmas.List.{append-nil}
use Rattle.std.specs.List.{flat_map}
use Rattle.fleet_name.specs.Name.{label_octets, wire, lower, IsName, IsWire}
use Rattle.fleet_name.specs.declared.bounds.TheConstants.{LONGEST_LABEL, LONGEST_NAME}
use Rattle.fleet_gossip.specs.Faults.{refused, behind, cut_octets, refused_octets, IsRoom, LabelFails}
use Rattle.fleet_gossip.specs.steps.Reading.{AreMissing, IsSplitAfter, IsLabelAt, IsSizeOf}
use Rattle.fleet_gossip.specs.declared.fault.FrameFault.{FrameFault}
use Rattle.fleet_name.proofs.Lemmas.{named_push}
use Rattle.fleet_gossip.proofs.Names.{wire-append}

-- After the length octet of a label.
module _ (refusal : FrameFault) (before : List (List ℕ)) (octets left : List ℕ) (size count : ℕ)
    (is : octets ≡ size ∷ left) (same : count ≡ size) (some : count ≡ 0 → ⊥) where
  pub label_long : (LONGEST_LABEL < count) ⊎ (LONGEST_NAME < length (wire before) + count + 1)
      → LabelFails refusal before octets refusal
  label_long over = refused size left is (λ lawful. let room = lawful (omega (arith, some, same))
      in omega (arith, over, same, room.short, room.fits)) refl

  pub has_room : count ≤ LONGEST_LABEL → length (wire before) + count + 1 ≤ LONGEST_NAME
      → IsRoom before size
  has_room short fits = record {
    some = omega (arith, some, same);
    short = omega (arith, short, same);
    fits = omega (arith, fits, same);
  }

  pub label_cut : (f : FrameFault) → IsRoom before size → AreMissing count left f
      → LabelFails refusal before octets f
  label_cut f room h = behind size left is (λ more. room)
      (cut_octets (subst (λ (n : ℕ). length left < n) same h.0) h.1)

  module _ (label rest : List ℕ) (taken : IsSplitAfter left count label rest) where
    pub label_capital : IsRoom before size → (lower label ≡ label → ⊥)
        → LabelFails refusal before octets refusal
    label_capital room unlike = behind size left is (λ more. room)
        (refused_octets label rest taken.whole (taken.counted ∙ same) unlike refl)

-- The labels read so far, and the one that is read next.
module _ (octets left rest label : List ℕ) (before : List (List ℕ))
    (is : octets ≡ flat_map label_octets before ++ left) (named : IsName before)
    (at : IsLabelAt before left label rest) where
  pub name_ends : label ≡ [] → (size : ℕ) → size ≡ length (wire before)
      → IsSizeOf IsWire octets size
  name_ends e size n = record {
    part = wire before;
    rest = rest;
    is = record {
      whole = is ∙ (ap (λ (x : List ℕ). flat_map label_octets before ++ x)
          (at.whole ∙ ap (λ (l : List ℕ). label_octets l ++ rest) e)
          ∙ sym (wire-append before rest));
      lawful = record { name = before; named = named; whole = refl };
    };
    counted = n;
  }

  module _ (some : label ≡ [] → ⊥) where
    some_octets : (xs : List ℕ) → (xs ≡ [] → ⊥) → 0 < length xs
    some_octets [] h = absurd (h refl)
    some_octets (x ∷ xs) h = omega arith

    pub room : IsRoom before (length label)
    room = at.room (some_octets label some)

    pub name_more : IsName (before ++ label ∷ [])
    name_more = named_push before label named
        (record { some = room.some; short = room.short; lowered = at.low })
        (omega (arith, room.fits))

    pub whole_more : octets ≡ flat_map label_octets (before ++ label ∷ []) ++ rest
    whole_more =
        let frames : flat_map label_octets (before ++ label ∷ []) ≡ flat_map label_octets before
        ++ label_octets label = rw (flat_map-append, append-nil) refl in
        is ∙ (ap (λ (x : List ℕ). flat_map label_octets before ++ x) at.whole
        ∙ (sym (append_assoc (flat_map label_octets before) (label_octets label) rest)
        ∙ ap (λ (x : List ℕ). x ++ rest) (sym frames)))

zero_from : (n : ℕ) → true ≡ nat_eq n 0 → n ≡ 0
zero_from n e = grind (arith, nat_tests, e)

not_zero : (n : ℕ) → false ≡ nat_eq n 0 → n ≡ 0 → ⊥
not_zero n e is = grind (arith, nat_tests, e, is)

pub empty_from : (xs : List ℕ) → true ≡ nat_eq (length xs) 0 → xs ≡ []
empty_from [] e = refl
empty_from (x ∷ xs) e = let n = zero_from (length (x ∷ xs)) e in absurd (omega (arith, n))

pub some_from : (xs : List ℕ) → false ≡ nat_eq (length xs) 0 → xs ≡ [] → ⊥
some_from xs e is = not_zero (length xs) e (ap length is)
