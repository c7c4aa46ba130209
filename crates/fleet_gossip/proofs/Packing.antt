-- A list is packed in one way.
-- Serves `encode`, law `one_packing`, and what `FrameSteps`, `PackSteps` serve.
use Rattle.std.proofs.Common.{◌≡◌, ℕ, ◌+◌, ◌<◌, ◌≤◌, List, [], ◌∷◌, ◌++◌, length, refl, sym, ap, ◌∙◌, subst, arith, length-append}
use Rattle.std.proofs.lemmas.Grind.{flat_map-append}
use Rattle.std.proofs.lemmas.List.{append-nil}
use Rattle.fleet_observe.specs.Observation.{ObservationData}
use Rattle.fleet_gossip.specs.Entry.{entry_octets}
use Rattle.fleet_gossip.specs.Frame.{entries, frame_octets, WritesFrame}
use Rattle.fleet_gossip.specs.declared.frame.TheConstants.{VERSION}
use Rattle.fleet_gossip.specs.Packed.{IsFull, IsPacked, none, more}

pub frame_length : (list : List ObservationData) → length (frame_octets VERSION list) ≡ 5
    + length (entries list)
frame_length list = omega arith

pub entries_push : (list : List ObservationData) (o : ObservationData) → entries (list ++ o ∷ [])
    ≡ entries list ++ entry_octets o
entries_push list o = rw (flat_map-append, append-nil) refl

pub frame_push : (list : List ObservationData) (o : ObservationData)
    → length (frame_octets VERSION (list ++ o ∷ [])) ≡ length (frame_octets VERSION list)
    + length (entry_octets o)
frame_push list o = omega (
  arith,
  ap length (entries_push list o),
  length-append (entries list) (entry_octets o),
)

frame_grows : (list : List ObservationData) (o : ObservationData) (others : List ObservationData)
    → length (frame_octets VERSION (list ++ o ∷ []))
    ≤ length (frame_octets VERSION (list ++ o ∷ others))
frame_grows list o others =
    omega (
      arith,
      frame_push list o,
      ap length (flat_map-append entry_octets list (o ∷ others)),
      length-append (entries list) (entries (o ∷ others)),
      length-append (entry_octets o) (entries others),
    )

pub octets_written : (octets : List ℕ) (list : List ObservationData) → WritesFrame octets list
    → octets ≡ frame_octets VERSION list
octets_written octets list is = is.0.spelled ∙ ap (λ (v : ℕ). frame_octets v list) is.1

-- two ways to split a list
data Splits (a b c d : List ObservationData) : Type 0 where
  same : a ≡ c → b ≡ d → Splits a b c d
  later : (x : ObservationData) (m : List ObservationData) → c ≡ a ++ x ∷ m → b ≡ x ∷ (m ++ d)
      → Splits a b c d
  sooner : (x : ObservationData) (m : List ObservationData) → a ≡ c ++ x ∷ m → d ≡ x ∷ (m ++ b)
      → Splits a b c d

one_more : (x y : ObservationData) (a b c d : List ObservationData) → x ≡ y → Splits a b c d
    → Splits (x ∷ a) b (y ∷ c) d
one_more x y a b c d e (same p q) = same (ap (λ (z : ObservationData). z ∷ a) e
    ∙ ap (λ (zs : List ObservationData). y ∷ zs) p) q
one_more x y a b c d e (later z m p q) = later z m (ap (λ (zs : List ObservationData). y ∷ zs) p
    ∙ ap (λ (w : ObservationData). w ∷ (a ++ z ∷ m)) (sym e)) q
one_more x y a b c d e (sooner z m p q) = sooner z m (ap (λ (zs : List ObservationData). x ∷ zs) p
    ∙ ap (λ (w : ObservationData). w ∷ (c ++ z ∷ m)) e) q

splits : (a b c d : List ObservationData) → a ++ b ≡ c ++ d → Splits a b c d
splits [] b [] d e = same refl e
splits [] b (y ∷ c) d e = later y c refl e
splits (x ∷ a) b [] d e = sooner x a refl (sym e)
splits (x ∷ a) b (y ∷ c) d e =
    let h : x ≡ y = cc in let t : a ++ b ≡ c ++ d = cc in
    one_more x y a b c d h (splits a b c d t)

-- where a part ends that is full, no longer one fits a frame
no_longer_part : (part rest longer : List ObservationData) (x : ObservationData)
    (m other : List ObservationData) (octets : List ℕ) → IsFull part rest → rest ≡ x ∷ other
    → longer ≡ part ++ x ∷ m → WritesFrame octets longer → ⊥
no_longer_part part rest longer x m other octets full e is spells =
    let over = subst (λ (z : List ObservationData). IsFull part z) e full in
    omega (
      arith,
      over,
      frame_grows part x m,
      spells.0.fits,
      ap length (octets_written octets longer spells),
      ap (λ (z : List ObservationData). length (frame_octets VERSION z)) is,
    )

no_part : (list part rest : List ObservationData) → list ≡ [] → list ≡ part ++ rest
    → 0 < length part → ⊥
no_part list part rest e e' some = omega (
  arith,
  ap length e,
  ap length e',
  length-append part rest,
  some,
)

pub one_packing : (list : List ObservationData) (a b : List (List ℕ)) → IsPacked list a
    → IsPacked list b → a ≡ b
one_packing list a b (none e is) (none e' is') = is ∙ sym is'
one_packing list a b (none e is) (more part rest first others e' some spells full packed is') =
    absurd (no_part list part rest e e' some)
one_packing list a b (more part rest first others e some spells full packed is) (none e' is') =
    absurd (no_part list part rest e' e some)
one_packing list a b (more part rest first others e some spells full packed is)
    (more part' rest' first' others' e' some' spells' full' packed' is') =
    elim (splits part rest part' rest' (sym e ∙ e')) [
      | same p q ↦
          let one : first ≡ first' = octets_written first part spells
          ∙ (ap (frame_octets VERSION) p ∙ sym (octets_written first' part' spells')) in
          let two : others ≡ others' = one_packing rest others others' packed
          (subst (λ (z : List ObservationData). IsPacked z others') (sym q) packed') in
          is ∙ (ap (λ (z : List ℕ). z ∷ others) one
          ∙ (ap (λ (z : List (List ℕ)). first' ∷ z) two ∙ sym is'))
      | later x m p q ↦ absurd (no_longer_part part rest part' x m (m ++ rest') first' full q p
          spells')
      | sooner x m p q ↦ absurd (no_longer_part part' rest' part x m (m ++ rest) first full' q p
          spells)
    ]
