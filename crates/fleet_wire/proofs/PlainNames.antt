-- Names in full and in lower case, among octets.
-- Serves `run_at`, `after_name`, `are_plain`, `read_plain_query`.
use Rattle.std.proofs.Common.{◌≡◌, ℕ, ◌+◌, ◌-◌, ◌≤◌, List, [], ◌∷◌, ◌++◌, length, take, drop, refl, sym, ap, ◌∙◌, subst, arith, append_assoc, length-append, drop-cons, add-one}
use Rattle.std.proofs.Math.Seq.{drop-append_seam, take-append_seam}
use Rattle.std.proofs.lemmas.List.{append-nil, take-append-drop, length-take-le, drop-drop}
use Rattle.std.proofs.lemmas.Grind.{flat_map-append}
use Rattle.std.specs.List.{flat_map, AllByRecursion}
use Rattle.fleet_name.specs.declared.bounds.TheConstants.{LONGEST_NAME}
use Rattle.fleet_name.specs.Name.{wire, label_octets, lower, IsLabel, IsName}
use Rattle.fleet_name.proofs.Lemmas.{label_among, named_push, any_case-from_lower, lower_all-same}
use Rattle.fleet_wire.specs.NameAt.{LabelAt, EndAt, NameAt, ends, goes_on, points}
use Rattle.fleet_wire.specs.Fault.{FaultAt, here}
use Rattle.fleet_wire.specs.declared.fault.ReadFault.{ReadFault}
use Rattle.fleet_wire.specs.declared.shape.Part.{Part}
use Rattle.fleet_wire.specs.declared.shape.Part.TheVariants.{Plain, Name}
use Rattle.fleet_wire.specs.Shape.{ArePlain}
use Rattle.fleet_wire.proofs.Readings.{one_reading, none_read, label_same, octets}
use Rattle.fleet_wire.proofs.Written.{lies_written}

-- the name at the front of octets is at that place of the message
pub lies_first : (m : List ℕ) (n : List (List ℕ)) (others : List ℕ) → IsName n
    → m ≡ wire n ++ others → NameAt m 0 0 n (0 + length (wire n))
lies_first m n others named e =
    let same = lower_all-same n named.labels in
    lies_written m 0 0 n (any_case-from_lower n (rw same named.labels))
    (record { front = []; back = others; whole = e; place = refl })

pub same_behind : (m : List ℕ) (n n' : List (List ℕ)) (a b : List ℕ) → IsName n → IsName n'
    → m ≡ wire n ++ a → m ≡ wire n' ++ b → a ≡ b
same_behind m n n' a b named named' e e' =
    let same =
    (one_reading m 0 0 n n' (0 + length (wire n)) (0 + length (wire n'))
    (lies_first m n a named e) (lies_first m n' b named' e')).0 in
    let both : wire n ++ a ≡ wire n ++ b =
    sym e ∙ (e' ∙ ap (λ (x : List (List ℕ)). wire x ++ b) (sym same)) in
    sym (drop-append_seam (wire n) a)
    ∙ (ap (λ (x : List ℕ). drop (length (wire n)) x) both ∙ drop-append_seam (wire n) b)

lies_label : (m : List ℕ) (p s : ℕ) (label : List ℕ) (t : List (List ℕ)) (e : ℕ)
    → LabelAt m p label → NameAt m s p t e
    → (rest : List (List ℕ)) × (t ≡ label ∷ rest) × NameAt m s (p + 1 + length label) rest e
lies_label m p s label t e at (ends ended is past) = absurd (omega (arith, at, ended))
lies_label m p s label t e at (goes_on l rest at' r is) =
    let same = label_same m p l label at' at in (
      rest,
      is ∙ ap (λ (x : List ℕ). x ∷ rest) same,
      subst (λ (x : List ℕ). NameAt m s (p + 1 + length x) rest e) same r,
    )
lies_label m p s label t e at (points q past at' lt r is) = absurd (omega (arith, at, at'))

-- One more label in a row after others, and the zero octet after them.
module _ (m front : List ℕ) (at : ℕ) (before : List (List ℕ))
    (whole : front ≡ flat_map label_octets before ++ drop at m) where
  pub behind_zero : EndAt m at → front ≡ wire before ++ drop (at + 1) m
  behind_zero ended =
      let rest : drop at m ≡ 0 ∷ drop (at + 1) m =
      rw (add-one, drop-cons m at 0 ended.begins, ended.zero_octet) refl in
      whole ∙ (ap (λ (x : List ℕ). flat_map label_octets before ++ x) rest
      ∙ sym (append_assoc (flat_map label_octets before) (0 ∷ []) (drop (at + 1) m)))

  pub behind_label : (label : List ℕ) → LabelAt m at label
      → front ≡ flat_map label_octets (before ++ label ∷ []) ++ drop (at + (1 + length label)) m
  behind_label label found =
      let rest : drop at m ≡ length label ∷ drop (at + 1) m =
      rw (add-one, drop-cons m at 0 found.begins, found.counted) refl in
      let sum : at + 1 + length label ≡ at + (1 + length label) = omega arith in
      let back : drop (length label) (drop (at + 1) m) ≡ drop (at + (1 + length label)) m =
      rw (drop-drop, sum) refl in
      let inner : drop (at + 1) m ≡ label ++ drop (at + (1 + length label)) m =
      sym (take-append-drop (length label) (drop (at + 1) m))
      ∙ (ap (λ (x : List ℕ). x ++ drop (length label) (drop (at + 1) m)) (sym found.octets)
      ∙ ap (λ (x : List ℕ). label ++ x) back) in
      let frames : flat_map label_octets (before ++ label ∷ [])
      ≡ flat_map label_octets before ++ label_octets label =
      rw (flat_map-append, append-nil) refl in
      whole ∙ (ap (λ (x : List ℕ). flat_map label_octets before ++ x)
      (rest ∙ ap (λ (x : List ℕ). length label ∷ x) inner)
      ∙ (sym (append_assoc (flat_map label_octets before) (label_octets label)
      (drop (at + (1 + length label)) m))
      ∙ ap (λ (x : List ℕ). x ++ drop (at + (1 + length label)) m) (sym frames)))

  -- the octets from s on, up to the zero octet
  pub up_to_zero : (s : ℕ) → front ≡ drop s m → at ≡ s + length (flat_map label_octets before)
      → EndAt m at → take (at + 1 - s) (drop s m) ≡ flat_map label_octets before ++ 0 ∷ []
  up_to_zero s is size ended =
      let named = flat_map label_octets before ++ 0 ∷ [] in
      let count : at + 1 - s ≡ length named =
      omega (arith, size, length-append (flat_map label_octets before) (0 ∷ [])) in
      ap (λ (k : ℕ). take k (drop s m)) count
      ∙ (ap (λ (x : List ℕ). take (length named) x) (sym is ∙ behind_zero ended)
      ∙ take-append_seam named (drop (at + 1) m))

-- The labels read so far, and what any name at the front goes on with.
module _ (m : List ℕ) (at : ℕ) (before : List (List ℕ))
    (whole : m ≡ flat_map label_octets before ++ drop at m)
    (size : at ≡ length (flat_map label_octets before))
    (named : IsName before)
    (only : (n : List (List ℕ)) (e : ℕ) → NameAt m 0 0 n e
    → (t : List (List ℕ)) × (n ≡ before ++ t) × NameAt m 0 at t e) where
  pub room : at + 1 ≤ LONGEST_NAME
  room = omega (arith, named.fits, length-append (flat_map label_octets before) (0 ∷ []), size)

  pub name_ends : EndAt m at → m ≡ wire before ++ drop (at + 1) m
  name_ends = behind_zero m m at before whole

  pub no_name : (f : ReadFault) → FaultAt m at 0 (at + 1) f → (n : List (List ℕ)) (others : List ℕ)
      → IsName n → m ≡ wire n ++ others → ⊥
  no_name f fault n others is e =
      let name_at = lies_first m n others is e in
      let o = only n (0 + length (wire n)) name_at in
      let parted : length (flat_map label_octets n)
      ≡ length (flat_map label_octets before) + octets o.0 =
      ap (λ (x : List (List ℕ)). length (flat_map label_octets x)) o.1
      ∙ rw (flat_map-append)
      (length-append (flat_map label_octets before) (flat_map label_octets o.0)) in
      none_read m at 0 (at + 1) f o.0 (0 + length (wire n)) (here fault) o.2
      (omega (arith, parted, is.fits, size, length-append (flat_map label_octets n) (0 ∷ [])))

  module _ (label : List ℕ) (found : LabelAt m at label) where
    pub no_capital : (lower label ≡ label → ⊥) → (n : List (List ℕ)) (others : List ℕ) → IsName n
        → m ≡ wire n ++ others → ⊥
    no_capital capital n others is e =
        let o = only n (0 + length (wire n)) (lies_first m n others is e) in
        let next = lies_label m at 0 label o.0 (0 + length (wire n)) found o.2 in
        let split : n ≡ before ++ label ∷ next.0 =
        o.1 ∙ ap (λ (x : List (List ℕ)). before ++ x) next.1 in
        capital (label_among before label next.0
        (subst (λ (x : List (List ℕ)). AllByRecursion IsLabel x) split is.labels)).lowered

    module _ (low : lower label ≡ label) (fits : at + 1 + length label + 1 ≤ LONGEST_NAME) where
      pub more_whole : m
          ≡ flat_map label_octets (before ++ label ∷ []) ++ drop (at + (1 + length label)) m
      more_whole = behind_label m m at before whole label found

      pub more_size : at + (1 + length label)
          ≡ length (flat_map label_octets (before ++ label ∷ []))
      more_size = rw (flat_map-append, append-nil, length-append) (omega (arith, size))

      pub more_named : IsName (before ++ label ∷ [])
      more_named =
          named_push before label named
          (record { some = found.some; short = found.short; lowered = low })
          (omega (arith, size, length-append (flat_map label_octets before) (0 ∷ [])))

      pub more_only : (n : List (List ℕ)) (e : ℕ) → NameAt m 0 0 n e
          → (t : List (List ℕ)) × (n ≡ (before ++ label ∷ []) ++ t)
          × NameAt m 0 (at + (1 + length label)) t e
      more_only n e r =
          let o = only n e r in
          let next = lies_label m at 0 label o.0 e found o.2 in
          let here_is : at + 1 + length label ≡ at + (1 + length label) = omega arith in (
            next.0,
            o.1
                ∙ (ap (λ (x : List (List ℕ)). before ++ x) next.1
                ∙ sym (append_assoc before (label ∷ []) next.0)),
            rw here_is at next.2,
          )

-- what is plain from here on is plain from the beginning, and the other way round
pub plain_here : (n : ℕ) (more : List Part) (rest : List ℕ) → n ≤ length rest
    → ArePlain more (drop n rest) → ArePlain (Plain n ∷ more) rest
plain_here n more rest fits h =
    (take n rest, drop n rest, sym (take-append-drop n rest), length-take-le n rest fits, h)

pub plain_back : (n : ℕ) (more : List Part) (rest : List ℕ) → ArePlain (Plain n ∷ more) rest
    → ArePlain more (drop n rest)
plain_back n more rest h =
    let is : drop n rest ≡ h.1 =
    ap (λ (k : ℕ). drop k rest) (sym h.3)
    ∙ (ap (λ (x : List ℕ). drop (length h.0) x) h.2 ∙ drop-append_seam h.0 h.1) in
    subst (λ (x : List ℕ). ArePlain more x) (sym is) h.4

pub name_back : (n : List (List ℕ)) (more : List Part) (rest others : List ℕ) → IsName n
    → rest ≡ wire n ++ others → ArePlain (Name ∷ more) rest → ArePlain more others
name_back n more rest others named e h =
    subst (λ (x : List ℕ). ArePlain more x) (same_behind rest h.0 n h.1 others h.3 named h.2 e) h.4
