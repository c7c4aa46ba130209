-- What is at the front of a name in full.
-- Serves `Name::copy_of`, `labels_in`, `push_labels`, `suffix_in`.
use Rattle.std.proofs.Common.{◌≡◌, ℕ, suc, ◌+◌, ◌<◌, ◌≤◌, List, [], ◌∷◌, ◌++◌, length, take, drop, get_or, refl, sym, ap, ◌∙◌, add-one, drop-cons, arith, length-append}
use Rattle.std.proofs.Math.Seq.{drop-append_seam, take-append_seam}
use Rattle.std.proofs.lemmas.List.{take-append-drop, length-take-le, take_more, append-nil, nil_from_length}
use Rattle.std.proofs.lemmas.Grind.{flat_map-append}
use Rattle.std.specs.List.{flat_map, AllByRecursion}
use Rattle.fleet_name.specs.declared.bounds.TheConstants.{LONGEST_LABEL, LONGEST_NAME}
use Rattle.fleet_name.specs.Name.{wire, lower, IsLabel, IsName, IsWire, IsSuffix, labels_of}
use Rattle.fleet_name.proofs.Lemmas.{labels_of-spelled, wire_cons, wire_some}
use Rattle.fleet_name.specs.Text.{label_text}

-- the first label of a name, and the others
pub record First (m : List (List ℕ)) (count : ℕ) (others : List ℕ) : Type 0 where
  pub label : List ℕ
  pub rest : List (List ℕ)
  pub is : m ≡ label ∷ rest
  pub counted : count ≡ length label
  pub octets : others ≡ label ++ wire rest

-- after a zero octet nothing follows
pub nothing_behind : (m : List (List ℕ)) (others : List ℕ) → AllByRecursion IsLabel m
    → 0 ∷ others ≡ wire m → others ≡ []
nothing_behind [] others all e = cc
nothing_behind (l ∷ m) others all e =
    let t : 0 ∷ others ≡ length l ∷ (l ++ wire m) = e ∙ wire_cons l m in
    let n : 0 ≡ length l = cc in
    absurd (omega (arith, n, all.0.some))

-- at another octet a label begins
pub first_label : (m : List (List ℕ)) (count : ℕ) (others : List ℕ) → 0 < count
    → count ∷ others ≡ wire m → First m count others
first_label [] count others some e =
    let n : count ≡ 0 = cc in
    absurd (omega (arith, n, some))
first_label (l ∷ m) count others some e =
    let t : count ∷ others ≡ length l ∷ (l ++ wire m) = e ∙ wire_cons l m in
    record { label = l; rest = m; is = refl; counted = cc; octets = cc }

-- one more label is read
pub record Reads (octets rest : List ℕ) (labels : ℕ) : Type 0 where
  pub counted : labels + length rest ≤ length octets
  pub found : (m : List (List ℕ)) → AllByRecursion IsLabel m → rest ≡ wire m
      → (n : List (List ℕ)) × AllByRecursion IsLabel n × (octets ≡ wire n)
      × (length n ≡ labels + length m)
  pub only : (n : List (List ℕ)) → AllByRecursion IsLabel n → octets ≡ wire n
      → (m : List (List ℕ)) × AllByRecursion IsLabel m × (rest ≡ wire m)

module _ (octets rest : List ℕ) (labels : ℕ) (reads : Reads octets rest labels) where
  pub none_left : length rest ≡ 0 → IsWire octets → ⊥
  none_left empty w =
      let o = reads.only w.name w.named.labels w.whole in
      omega (arith, empty, wire_some o.0, ap length o.2)

  module _ (count : ℕ) (others : List ℕ) (is : rest ≡ count ∷ others) where
    pub zero_inside : count ≡ 0 → 0 < length others → IsWire octets → ⊥
    zero_inside ended some w =
        let o = reads.only w.name w.named.labels w.whole in
        let e : 0 ∷ others ≡ wire o.0 = ap (λ (x : ℕ). x ∷ others) (sym ended) ∙ (sym is ∙ o.2) in
        omega (arith, some, ap length (nothing_behind o.0 others o.1 e))

    pub read : count ≡ 0 → length others ≡ 0 → length octets ≤ LONGEST_NAME
        → (n : List (List ℕ)) × IsName n × (octets ≡ wire n) × (labels ≡ length n)
    read ended empty fits =
        let nil : others ≡ [] = nil_from_length others empty in
        let e : rest ≡ wire [] =
        is ∙ (ap (λ (x : ℕ). x ∷ others) ended ∙ ap (λ (x : List ℕ). 0 ∷ x) nil) in
        let f = reads.found [] tt e in (
          f.0,
          record { labels = f.1; fits = omega (arith, fits, ap length f.2) },
          f.2,
          omega (arith, f.3),
        )

    module _ (some : 0 < count) where
      label_begun : (w : IsWire octets)
          → (m : List (List ℕ)) × AllByRecursion IsLabel m × First m count others
      label_begun w =
          let o = reads.only w.name w.named.labels w.whole in
          (o.0, o.1, first_label o.0 count others some (sym is ∙ o.2))

      pub long_label : LONGEST_LABEL < count → IsWire octets → ⊥
      long_label long w =
          let b = label_begun w in
          let l : IsLabel b.2.label = (rw b.2.is at b.1).0 in
          omega (arith, long, b.2.counted, l.short)

      pub cut_label : length others < count → IsWire octets → ⊥
      cut_label cut w =
          let b = label_begun w in
          omega (
            arith,
            cut,
            b.2.counted,
            ap length b.2.octets,
            length-append b.2.label (wire b.2.rest),
          )

      module _ (label behind : List ℕ) (took : label ≡ take count others)
          (left : behind ≡ drop count others) where
        same_label : (f : (m : List (List ℕ)) × AllByRecursion IsLabel m × First m count others)
            → label ≡ f.2.label
        same_label f =
            took ∙ (ap (λ (x : ℕ). take x others) f.2.counted
            ∙ (ap (take (length f.2.label)) f.2.octets
            ∙ take-append_seam f.2.label (wire f.2.rest)))

        same_behind : (f : (m : List (List ℕ)) × AllByRecursion IsLabel m × First m count others)
            → behind ≡ wire f.2.rest
        same_behind f =
            left ∙ (ap (λ (x : ℕ). drop x others) f.2.counted
            ∙ (ap (drop (length f.2.label)) f.2.octets
            ∙ drop-append_seam f.2.label (wire f.2.rest)))

        pub no_capital : (lower label ≡ label → ⊥) → IsWire octets → ⊥
        no_capital high w =
            let b = label_begun w in
            let l : IsLabel b.2.label = (rw b.2.is at b.1).0 in
            let same = same_label b in
            high (ap lower same ∙ (l.lowered ∙ sym same))

        pub label_read : lower label ≡ label → count ≤ LONGEST_LABEL → count ≤ length others
            → Reads octets behind (labels + 1)
        label_read low short within =
            let n : length label ≡ count = ap length took ∙ length-take-le count others within in
            let split : others ≡ label ++ behind =
            sym (take-append-drop count others)
            ∙ (ap (λ (x : List ℕ). x ++ drop count others) (sym took)
            ∙ ap (λ (x : List ℕ). label ++ x) (sym left)) in
            let one : IsLabel label =
            record {
              some = omega (arith, n, some);
              short = omega (arith, n, short);
              lowered =
                  low;
            } in
            record {
              counted =
                  omega (
                    arith,
                    reads.counted,
                    ap length is,
                    ap length split,
                    length-append label behind,
                    n,
                  );
              found = λ m all e.
                  let whole : rest ≡ wire (label ∷ m) =
                  is ∙ (ap (λ (x : List ℕ). count ∷ x) (split ∙ ap (λ (x : List ℕ). label ++ x) e)
                  ∙ (ap (λ (x : ℕ). x ∷ (label ++ wire m)) (sym n) ∙ sym (wire_cons label m))) in
                  let f = reads.found (label ∷ m) (one, all) whole in
                  (f.0, f.1, f.2, omega (arith, f.3));
              only = λ k all e.
                  let o = reads.only k all e in
                  let f = first_label o.0 count others some (sym is ∙ o.2) in
                  let parts = rw f.is at o.1 in
                  (f.rest, parts.1, same_behind (o.0, o.1, f));
            }

first_of : (label : List ℕ) (rest : List (List ℕ))
    → drop 1 (take (length label + 1) (wire (label ∷ rest))) ≡ label
first_of label rest =
    let behind : take (length label) (label ++ wire rest) ≡ label =
    take-append_seam label (wire rest) in
    rw (wire_cons label rest, add-one (length label)) behind

-- the octets of the k-th label, after its length octet
pub label_octets : (name : List (List ℕ)) (k : ℕ) → k < length name
    → drop 1 (take (length (get_or name k []) + 1) (wire (drop k name))) ≡ get_or name k []
label_octets name k within =
    let label = get_or name k [] in
    ap (λ (x : List (List ℕ)). drop 1 (take (length label + 1) (wire x)))
    (drop-cons name k [] within) ∙ first_of label (drop (suc k) name)

-- the text of one more label
pub text_more : (name : List (List ℕ)) (k : ℕ) (label : List ℕ) → k < length name
    → label ≡ get_or name k []
    → flat_map label_text (take (k + 1) name)
    ≡ flat_map label_text (take k name) ++ label_text label
text_more name k label within is =
    let longer : take (k + 1) name ≡ take k name ++ get_or name k [] ∷ [] =
    take_more name k [] within in
    rw (longer, flat_map-append, ← is, append-nil) refl

-- Octets of a name in full, and how many labels it has.
module _ (octets : List ℕ) (count : ℕ)
    (whole : (n : List (List ℕ)) × IsName n × (octets ≡ wire n) × (count ≡ length n)) where
  pub labels_are : labels_of octets ≡ whole.0
  labels_are = labels_of-spelled octets whole.0 whole.1.labels whole.2

  pub whole_is : octets ≡ wire (labels_of octets)
  whole_is = whole.2 ∙ ap wire (sym labels_are)

  pub whole_named : IsName (labels_of octets)
  whole_named = rw labels_are whole.1

  pub whole_counted : count ≡ length (labels_of octets)
  whole_counted = whole.3 ∙ ap length (sym labels_are)

  pub no_suffix : (drops : ℕ) → count < drops → (rest : List ℕ) → IsSuffix octets drops rest → ⊥
  no_suffix drops few rest s =
      let same : labels_of octets ≡ s.name =
      labels_of-spelled octets s.name s.named.labels s.whole in
      omega (arith, few, whole_counted, ap length same, s.enough)

  pub suffix : (drops : ℕ) (rest : List ℕ) → drops ≤ count
      → rest ≡ wire (drop drops (labels_of octets)) → IsSuffix octets drops rest
  suffix drops rest few is =
      record {
        name = labels_of octets;
        named = whole_named;
        whole = whole_is;
        enough =
            omega (arith, few, whole_counted);
        behind = is;
      }
