-- A frame spells one list, and has no fault.
-- Serves `decode`, `encode`, `to_observations`, `take_frame`, the laws `list_or_fault`,
-- `one_fault`, `one_list`, `one_spelling`, and what `FrameSteps`, `PackSteps` serve.
use Rattle.std.proofs.Common.{◌≡◌, ℕ, inl, inr, List, [], ◌∷◌, ◌++◌, length, refl, sym, ap, ◌∙◌, subst, arith, length-append, append_assoc}
use Rattle.std.proofs.lemmas.List.{append-nil}
use Rattle.fleet_wire.specs.Number.{u16_octets}
use Rattle.fleet_observe.specs.Members.{Has}
use Rattle.fleet_observe.specs.Observation.{ObservationData, AreObservations}
use Rattle.fleet_observe.specs.declared.observation.kind.Kind.{Kind}
use Rattle.fleet_observe.specs.declared.observation.kind.Kind.TheVariants.{NameError, NoData, Positive, Flush}
use Rattle.fleet_gossip.specs.Entry.{octet, entry_octets, IsVersion, IsKindIn, AreIn}
use Rattle.fleet_gossip.specs.Frame.{entries, frame_octets, SpellsFrame}
use Rattle.fleet_gossip.specs.declared.frame.TheConstants.{MAGIC, VERSION}
use Rattle.fleet_gossip.specs.Faults.{FieldFails, AnyNumber, EntryFails, EntriesFail, entry_fails, more_octets, FrameFieldsFail, FrameFails}
use Rattle.fleet_gossip.specs.declared.fault.FrameFault.{FrameFault}
use Rattle.fleet_gossip.specs.declared.fault.FrameFault.TheVariants.{BadMagic, BadVersion, Truncated}
use Rattle.fleet_wire.proofs.Lemmas.{u16_exact, u16_long}
use Rattle.fleet_gossip.proofs.Numbers.{octet_exact, octet_long}
use Rattle.fleet_gossip.proofs.Fields.{field_or_fault, one_field}
use Rattle.fleet_gossip.proofs.Rows.{Aligned, same, longer, shorter, align, row_or_fault, one_row_fault}
use Rattle.fleet_name.proofs.Lemmas.{has_left, has_right}
use Rattle.fleet_gossip.proofs.Entries.{entry_of, entry_or_fault, one_entry_fault, entry_exact}

-- what holds of each of a list and of one more
pub all_pushed : (P : ObservationData → Type 0) (before : List ObservationData)
    (o : ObservationData) → ((x : ObservationData) → Has before x → P x) → P o
    → (x : ObservationData) → Has (before ++ o ∷ []) x → P x
all_pushed P [] o l is x h = elim h [
  | inl e ↦ subst (λ (y : ObservationData). P y) e is
  | inr h' ↦ absurd h'
]
all_pushed P (y ∷ before) o l is x h = elim h [
  | inl e ↦ l x (inl e)
  | inr h' ↦ all_pushed P before o (λ z k. l z (inr k)) is x h'
]

-- every observation is one of the newest version
pub kind_written : (kind : Kind) → IsKindIn VERSION kind
kind_written Positive = tt
kind_written NoData = tt
kind_written NameError = tt
kind_written Flush = omega arith

pub are_written : (list : List ObservationData) → AreObservations list → AreIn VERSION list
are_written list lawful = λ o h. (lawful o h, kind_written o.kind)

-- The entries of a version.
module _ (version : ℕ) where
  lawful_one_more : (before : List ObservationData) (o : ObservationData)
      (more : List ObservationData)
      → AreIn version (before ++ o ∷ more) → AreIn version (before ++ o ∷ [])
  lawful_one_more before o more l = λ x h. l x
      (subst (λ (xs : List ObservationData). Has xs x) (append_assoc before (o ∷ []) more)
      (has_left (before ++ o ∷ []) more x h))

  exact : (before : List ObservationData) (o p : ObservationData) (r s : List ℕ)
      → AreIn version (before ++ o ∷ []) → AreIn version (before ++ p ∷ [])
      → entry_octets o ++ r ≡ entry_octets p ++ s → (o ≡ p) × (r ≡ s)
  exact before o p r s l l' e = entry_exact o p
      (entry_of o (l o (has_right before (o ∷ []) o (inl refl))).0)
      (entry_of p (l' p (has_right before (p ∷ []) p (inl refl))).0) r s e

  next_or_fault : (before : List ObservationData) (o : ObservationData) (rest octets : List ℕ)
      (f : FrameFault) → AreIn version (before ++ o ∷ []) → octets ≡ entry_octets o ++ rest
      → EntryFails version octets f → ⊥
  next_or_fault before o rest octets f l is h =
      let in_it = l o (has_right before (o ∷ []) o (inl refl)) in
      entry_or_fault o (entry_of o in_it.0) rest f version in_it.1 octets is h

  rows_same : (a b : List ObservationData) (r s : List ℕ) → length a ≡ length b
      → Aligned ObservationData entry_octets a b r s → (a ≡ b) × (r ≡ s)
  rows_same a b r s n (same e e') = (e, e')
  rows_same a b r s n (longer y more e e') = absurd
      (omega (arith, n, ap length e, length-append a (y ∷ more)))
  rows_same a b r s n (shorter x more e e') = absurd
      (omega (arith, n, ap length e, length-append b (x ∷ more)))

  entries_exact : (a b : List ObservationData) (r s : List ℕ) → AreIn version a → AreIn version b
      → length a ≡ length b → entries a ++ r ≡ entries b ++ s → (a ≡ b) × (r ≡ s)
  entries_exact a b r s l l' n e = rows_same a b r s n
      (align ObservationData entry_octets (AreIn version) lawful_one_more exact a b r s l l' e)

  entries_or_fault : (list : List ObservationData) (octets : List ℕ) (f : FrameFault)
      → AreIn version list → octets ≡ entries list ++ []
      → EntriesFail version (length list) octets f → ⊥
  entries_or_fault list octets f l is (entry_fails before r e l' few h) =
      row_or_fault ObservationData entry_octets (AreIn version) lawful_one_more exact
      (λ b. EntryFails version)
      next_or_fault before list r [] f l' l (sym e ∙ is) few h
  entries_or_fault list octets f l is (more_octets all r e l' n some e') =
      let h = entries_exact all list r [] l' l n (sym e ∙ is) in omega (arith, some, ap length h.1)

  one_entries_fault : (count : ℕ) (octets : List ℕ) (f g : FrameFault)
      → EntriesFail version count octets f → EntriesFail version count octets g → f ≡ g
  one_entries_fault count octets f g (entry_fails a r e l few h) (entry_fails b s e' l' few' h') =
      one_row_fault ObservationData entry_octets (AreIn version) lawful_one_more exact
      (λ x. EntryFails version) next_or_fault
      (λ x rest f' g' k k'. one_entry_fault version rest f' g' k k') a b r s f g l l' (sym e ∙ e')
      h h'
  one_entries_fault count octets f g (entry_fails a r e l few h) (more_octets b s e' l' n some is) =
      absurd (row_or_fault ObservationData entry_octets (AreIn version) lawful_one_more exact
      (λ x. EntryFails version) next_or_fault a b r s f l l' (sym e ∙ e') (omega (arith, few, n)) h)
  one_entries_fault count octets f g (more_octets b s e' l' n some is) (entry_fails a r e l few h) =
      absurd (row_or_fault ObservationData entry_octets (AreIn version) lawful_one_more exact
      (λ x. EntryFails version) next_or_fault a b r s g l l' (sym e ∙ e') (omega (arith, few, n)) h)
  one_entries_fault count octets f g (more_octets a r e l n some is)
      (more_octets b s e' l' n' some' is') = is ∙ sym is'

-- a frame has one version
pub one_version : (octets : List ℕ) (a b : List ObservationData) (one : SpellsFrame octets a)
    (two : SpellsFrame octets b) → (one.version ≡ two.version)
    × (u16_octets (length a) ++ entries a ≡ u16_octets (length b) ++ entries b)
one_version octets a b one two =
    let e : frame_octets one.version a ≡ frame_octets two.version b =
    sym one.spelled ∙ two.spelled in
    let m = u16_exact MAGIC MAGIC _ _ e in octet_exact one.version two.version _ _ m.1

pub one_list : (octets : List ℕ) (a b : List ObservationData) → SpellsFrame octets a
    → SpellsFrame octets b → a ≡ b
one_list octets a b one two =
    let v = one_version octets a b one two in
    let n = u16_exact (length a) (length b) (entries a) (entries b) v.1 in
    (entries_exact one.version a b [] [] one.lawful
    (subst (λ (x : ℕ). AreIn x b) (sym v.0) two.lawful) n.0
    (ap (λ (x : List ℕ). x ++ []) n.1)).0

pub one_spelling : (list : List ObservationData) (a b : List ℕ) (x : SpellsFrame a list)
    (y : SpellsFrame b list) → x.version ≡ y.version → a ≡ b
one_spelling list a b x y e =
    x.spelled ∙ (ap (λ (v : ℕ). frame_octets v list) e ∙ sym y.spelled)

-- The lines of `FrameFieldsFail` after the first.
abbrev CountFails : ℕ → List ℕ → FrameFault → Type 0
CountFails version = FieldFails u16_octets 2 AnyNumber Truncated (EntriesFail version)

abbrev VersionFails : List ℕ → FrameFault → Type 0
VersionFails = FieldFails octet 1 IsVersion BadVersion CountFails

magic_or_fault : (version : ℕ) (list : List ObservationData) (octets : List ℕ) (f : FrameFault)
    → IsVersion version → AreIn version list → octets ≡ frame_octets version list
    → FrameFieldsFail octets f → ⊥
magic_or_fault version list octets f read l e h =
    field_or_fault u16_octets 2 (λ n. n ≡ MAGIC) BadMagic (λ n. VersionFails) u16_long u16_exact
    MAGIC (octet version ++ (u16_octets (length list) ++ entries list)) octets f e refl
    (λ h'. field_or_fault octet 1 IsVersion BadVersion CountFails octet_long
    octet_exact version (u16_octets (length list) ++ entries list) _ f refl read
    (λ h''. field_or_fault u16_octets 2 AnyNumber Truncated (EntriesFail version) u16_long u16_exact
    (length list) (entries list) _ f refl tt
    (λ k. entries_or_fault version list (entries list) f l (sym (append-nil (entries list))) k)
    h'') h')
    h

pub list_or_fault : (octets : List ℕ) (list : List ObservationData) (f : FrameFault)
    → SpellsFrame octets list → FrameFails octets f → ⊥
list_or_fault octets list f is (inl h) = omega (arith, h.0, is.fits)
list_or_fault octets list f is (inr h) = magic_or_fault is.version list octets f is.read is.lawful
    is.spelled h.1

one_magic_fault : (octets : List ℕ) (f g : FrameFault) → FrameFieldsFail octets f → FrameFieldsFail octets g
    → f ≡ g
one_magic_fault octets f g h h' =
    one_field u16_octets 2 (λ n. n ≡ MAGIC) BadMagic (λ n. VersionFails) u16_long u16_exact
    (λ n r f' g' l. one_field octet 1 IsVersion BadVersion CountFails octet_long octet_exact
    (λ v r' f'' g'' l'. one_field u16_octets 2 AnyNumber Truncated (EntriesFail v) u16_long
    u16_exact (λ count r'' a b any. one_entries_fault v count r'' a b) r' f'' g'') r f' g')
    octets f g h h'

pub one_fault : (octets : List ℕ) (f g : FrameFault) → FrameFails octets f → FrameFails octets g
    → f ≡ g
one_fault octets f g (inl h) (inl h') = h.1 ∙ sym h'.1
one_fault octets f g (inl h) (inr h') = absurd (omega (arith, h.0, h'.0))
one_fault octets f g (inr h) (inl h') = absurd (omega (arith, h.0, h'.0))
one_fault octets f g (inr h) (inr h') = one_magic_fault octets f g h.1 h'.1
