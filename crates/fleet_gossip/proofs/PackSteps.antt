-- The steps of packing.
-- Serves `encode`, `frame_size`, `Packer::add`, `Packer::finish`, `pack`, `push_head`.
use Rattle.std.proofs.Common.{◌≡◌, ℕ, ◌+◌, ◌<◌, ◌≤◌, List, [], ◌∷◌, ◌++◌, length, refl, sym, ap, ◌∙◌, subst, inl, inr, arith, length-append, append_assoc, take, drop, get_or, add-one, drop-cons}
use Rattle.std.proofs.Math.ListN.{drop_of_length-le}
use Rattle.std.proofs.lemmas.List.Folds.{length-flat_map-take}
use Rattle.fleet_gossip.specs.steps.Reading.{FitsFrame}
use Rattle.std.proofs.lemmas.List.{append-nil, nil_from_length, take_more}
use Rattle.fleet_wire.specs.Number.{u16_octets, u32_octets}
use Rattle.fleet_observe.specs.Observation.{ObservationData, IsObservation, AreObservations}
use Rattle.fleet_gossip.specs.Entry.{octet, u64_octets, entry_octets}
use Rattle.fleet_gossip.specs.Frame.{entries, frame_octets, WritesFrame}
use Rattle.fleet_gossip.specs.declared.frame.TheConstants.{MAGIC, VERSION}
use Rattle.fleet_gossip.specs.Packed.{IsPacked, none, more}
use Rattle.fleet_gossip.specs.steps.Packs.{Hold}
use Rattle.fleet_gossip.specs.declared.bounds.TheConstants.{LONGEST_ENTRY, LONGEST_FRAME}
use Rattle.fleet_gossip.proofs.Frames.{all_pushed, are_written}
use Rattle.fleet_gossip.proofs.Packing.{entries_push, frame_push, frame_length}

-- kind, rank, stamp and life, one after the other
pub head_written : (out a b d new : List ℕ) {k kind r rank s stamp l life : ℕ} → k ≡ kind → r ≡ rank
    → s ≡ stamp → l ≡ life → a ≡ out ++ k ∷ [] → b ≡ a ++ r ∷ [] → d ≡ b ++ u64_octets s
    → new ≡ d ++ u32_octets l
    → new ≡ out ++ (octet kind ++ (octet rank ++ (u64_octets stamp ++ u32_octets life)))
head_written out a b d new {k} {kind} {r} {rank} {s} {stamp} {l} {life} ke re se le ae be de ne =
    let one : octet k ++ (octet r ++ (u64_octets s ++ u32_octets l)) ≡ octet kind
    ++ (octet rank ++ (u64_octets stamp ++ u32_octets life)) =
    ap (λ (n : ℕ). octet n ++ (octet r ++ (u64_octets s ++ u32_octets l))) ke
    ∙ (ap (λ (n : ℕ). octet kind ++ (octet n ++ (u64_octets s ++ u32_octets l))) re
    ∙ (ap (λ (n : ℕ). octet kind ++ (octet rank ++ (u64_octets n ++ u32_octets l))) se
    ∙ ap (λ (n : ℕ). octet kind ++ (octet rank ++ (u64_octets stamp ++ u32_octets n))) le)) in
    ne ∙ (ap (λ (x : List ℕ). x ++ u32_octets l)
    (de ∙ ap (λ (x : List ℕ). x ++ u64_octets s) (be ∙ ap (λ (x : List ℕ). x ++ r ∷ []) ae))
    ∙ (append_assoc ((out ++ k ∷ []) ++ r ∷ []) (u64_octets s) (u32_octets l)
    ∙ (append_assoc (out ++ k ∷ []) (octet r) (u64_octets s ++ u32_octets l)
    ∙ (append_assoc out (octet k) (octet r ++ (u64_octets s ++ u32_octets l))
    ∙ ap (λ (x : List ℕ). out ++ x) one))))

-- no list has more observations than octets
pub count_le : (list : List ObservationData) → length list ≤ length (entries list)
count_le [] = omega arith
count_le (o ∷ list) = omega (arith, count_le list, length-append (entry_octets o) (entries list))

-- the frame in the making, finished
pub spells_part : (octets : List ℕ) (count : ℕ) (part : List ObservationData) → AreObservations part
    → count ≡ length part → octets ≡ entries part
    → length (frame_octets VERSION part) ≤ LONGEST_FRAME
    → WritesFrame (u16_octets MAGIC ++ (octet VERSION ++ (u16_octets count ++ octets))) part
spells_part octets count part lawful n e fits =
    let same : u16_octets MAGIC ++ (octet VERSION ++ (u16_octets count ++ octets))
    ≡ frame_octets VERSION part = ap (λ (k : ℕ). u16_octets MAGIC
    ++ (octet VERSION ++ (u16_octets k ++ octets))) n
    ∙ ap (λ (x : List ℕ). u16_octets MAGIC ++ (octet VERSION ++ (u16_octets (length part) ++ x))) e
    in (
      record {
        version = VERSION;
        read = (omega arith, omega arith);
        lawful = are_written part lawful;
        spelled = same;
        fits = rw (ap length same) fits;
      },
      refl,
    )

pushed_some : (taken : List ObservationData) (o : ObservationData) → taken ++ o ∷ [] ≡ [] → ⊥
pushed_some taken o e = omega (arith, ap length e, length-append taken (o ∷ []))

-- Frames that hold what was taken, and one more observation.
module _ (frames : List (List ℕ)) (octets : List ℕ) (count : ℕ) (taken : List ObservationData)
    (hold : Hold frames octets count taken) where
  pub count_small : count ≤ length octets
  count_small = omega (arith, hold.counted, ap length hold.spelled, count_le hold.part)

  pub octets_fit : length octets + 5 ≤ LONGEST_FRAME
  octets_fit = omega (arith, hold.fits, frame_length hold.part, ap length hold.spelled)

  module _ (o : ObservationData) (is : IsObservation o) (new : List ℕ) where
    pub hold_more : new ≡ octets ++ entry_octets o → 5 + length octets + length (entry_octets o)
        ≤ LONGEST_FRAME → Hold frames new (count + 1) (taken ++ o ∷ [])
    hold_more wrote room = record {
      part = hold.part ++ o ∷ [];
      lawful = all_pushed IsObservation hold.part o hold.lawful is;
      counted = omega (arith, hold.counted, length-append hold.part (o ∷ []));
      none = λ e. absurd (pushed_some taken o e);
      spelled = wrote ∙ (ap (λ (x : List ℕ). x ++ entry_octets o) hold.spelled
          ∙ sym (entries_push hold.part o));
      fits = omega (
        arith,
        room,
        frame_push hold.part o,
        frame_length hold.part,
        ap length hold.spelled,
      );
      goes_on = λ rest others h. rw append_assoc
          (hold.goes_on (o ∷ rest) others (rw append_assoc at h));
    }

    some_part : (part : List ObservationData) → LONGEST_FRAME < length (frame_octets VERSION part)
        + length (entry_octets o) → length (entry_octets o) ≤ LONGEST_ENTRY → 0 < length part
    some_part [] over small = omega (arith, over, small)
    some_part (x ∷ part) over small = omega arith

    -- where it does not fit, the frame in the making is finished, and it begins a new one
    pub hold_next : (finished : List (List ℕ))
        → finished ≡ frames ++ (u16_octets MAGIC ++ (octet VERSION ++ (u16_octets count ++ octets)))
        ∷ [] → new ≡ entry_octets o → LONGEST_FRAME < 5 + length octets + length (entry_octets o)
        → length (entry_octets o) ≤ LONGEST_ENTRY → Hold finished new 1 (taken ++ o ∷ [])
    hold_next finished closed wrote over small =
        let over' : LONGEST_FRAME
        < length (frame_octets VERSION hold.part) + length (entry_octets o) =
        omega (arith, over, frame_length hold.part, ap length hold.spelled) in
        let first = u16_octets MAGIC ++ (octet VERSION ++ (u16_octets count ++ octets)) in
        record {
          part = o ∷ [];
          lawful = λ x h. elim h [
            | inl e ↦ subst (λ (y : ObservationData). IsObservation y) e is
            | inr h' ↦ absurd h'
          ];
          counted = refl;
          none = λ e. absurd (pushed_some taken o e);
          spelled = wrote ∙ sym (append-nil (entry_octets o));
          fits = omega (arith, small, frame_length (o ∷ []), length-append (entry_octets o) []);
          goes_on = λ rest others h.
              let whole = hold.goes_on (o ∷ rest) (first ∷ others)
              (more hold.part (o ∷ rest) first others refl (some_part hold.part over' small)
              (spells_part octets count hold.part hold.lawful hold.counted hold.spelled hold.fits)
              (omega (arith, over', frame_push hold.part o)) h refl) in
              rw (closed, append_assoc, append_assoc) whole;
        }

  -- where there are entries in the making, something was taken
  pub taken_some : (count ≡ 0 → ⊥) → taken ≡ [] → ⊥
  taken_some some e = some (hold.counted ∙ ap length (hold.none e))

  pub packed_none : count ≡ 0 → IsPacked taken frames
  packed_none e =
      let empty : hold.part ≡ [] = nil_from_length hold.part (sym hold.counted ∙ e) in
      rw (append-nil, append-nil) at (hold.goes_on [] [] (rw (empty) (none refl refl)))

  pub packed_all : (finished : List (List ℕ))
      → finished ≡ frames ++ (u16_octets MAGIC ++ (octet VERSION ++ (u16_octets count ++ octets)))
      ∷ [] → (count ≡ 0 → ⊥) → IsPacked taken finished
  packed_all finished closed some =
      let first = u16_octets MAGIC ++ (octet VERSION ++ (u16_octets count ++ octets)) in
      let spells = spells_part octets count hold.part hold.lawful hold.counted hold.spelled
      hold.fits in
      rw (closed, ← append-nil taken) (hold.goes_on [] (first ∷ [])
      (more hold.part [] first [] refl (omega (arith, some, hold.counted)) spells tt
      (none refl refl) refl))

pub take_item : (list : List ObservationData) (i : ℕ) (o : ObservationData) → i < length list
    → o ≡ get_or list i o → take (i + 1) list ≡ take i list ++ o ∷ []
take_item list i o within is = take_more list i o within
    ∙ ap (λ (x : ObservationData). take i list ++ x ∷ []) (sym is)

-- The i-th observation of a list is written after those before it.
module _ (list : List ObservationData) (i : ℕ) (o : ObservationData) (within : i < length list)
    (is : o ≡ get_or list i o) where
  pub frame_taken : length (frame_octets VERSION (take (i + 1) list))
      ≡ length (frame_octets VERSION (take i list)) + length (entry_octets o)
  frame_taken = ap (λ (x : List ObservationData). length (frame_octets VERSION x))
      (take_item list i o within is) ∙ frame_push (take i list) o

  pub frame_at_least : length (frame_octets VERSION (take i list)) + length (entry_octets o)
      ≤ length (frame_octets VERSION list)
  frame_at_least =
      omega (
        arith,
        length-flat_map-take entry_octets list i o within,
        ap (λ (x : ObservationData). length (entry_octets x)) is,
        frame_length list,
        frame_length (take i list),
      )

  pub fits_more : (size : ℕ) → FitsFrame (take i list) size → IsObservation o
      → size + length (entry_octets o) ≤ LONGEST_FRAME
      → FitsFrame (take (i + 1) list) (size + length (entry_octets o))
  fits_more size fits lawful room = record {
    lawful = rw (take_item list i o within is)
        (all_pushed IsObservation (take i list) o fits.lawful lawful);
    counted = omega (arith, fits.counted, frame_taken);
    fits = room;
  }

  pub written_more : (out new whole : List ℕ) → out ++ entries (drop i list) ≡ whole
      → new ≡ out ++ entry_octets o → new ++ entries (drop (i + 1) list) ≡ whole
  written_more out new whole before wrote =
      let next : drop i list ≡ o ∷ drop (i + 1) list =
      rw (add-one, drop-cons list i o within, ← is) refl in
      ap (λ (x : List ℕ). x ++ entries (drop (i + 1) list)) wrote
      ∙ (append_assoc out (entry_octets o) (entries (drop (i + 1) list))
      ∙ (ap (λ (x : List ObservationData). out ++ entries x) (sym next) ∙ before))

pub all_written : (list : List ObservationData) (i : ℕ) (out whole : List ℕ)
    → out ++ entries (drop i list) ≡ whole → length list ≤ i → out ≡ whole
all_written list i out whole is past =
    let rest : drop i list ≡ [] = drop_of_length-le list past in
    sym (append-nil out) ∙ (ap (λ (x : List ObservationData). out ++ entries x) (sym rest) ∙ is)
