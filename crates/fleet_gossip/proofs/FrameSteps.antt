-- The steps of reading a frame.
-- Serves `check_entries`, `decode`, `read_frame`, `read_opening`, `to_observations`,
-- `Packer::finish`, `take_frame`, `to_made`.
use Rattle.std.proofs.Common.{◌≡◌, ℕ, ◌+◌, ◌<◌, ◌≤◌, inl, inr, List, [], ◌∷◌, ◌++◌, length, refl, sym, ap, ◌∙◌, subst, arith, length-append, append_assoc, Result, Ok, Err}
use Rattle.std.specs.Prelude.{IfErr}
use Rattle.std.proofs.lemmas.List.{append-nil, nil_from_length}
use Rattle.fleet_wire.specs.Number.{u16_octets}
use Rattle.fleet_observe.specs.Members.{Has}
use Rattle.fleet_observe.specs.Observation.{ObservationData, IsObservation}
use Rattle.fleet_gossip.specs.Entry.{octet, entry_octets, IsVersion, IsIn, AreIn}
use Rattle.fleet_gossip.specs.Frame.{entries, SpellsFrame, HasEntries}
use Rattle.fleet_gossip.specs.declared.frame.TheConstants.{MAGIC}
use Rattle.fleet_gossip.specs.Faults.{cut, refused, behind, EntryFails, EntriesFail, entry_fails, more_octets, FrameFieldsFail, FrameFails}
use Rattle.fleet_gossip.specs.steps.Reading.{AreMissing, IsOpening, BeginsWithEntries, AreEntryOctets}
use Rattle.fleet_gossip.specs.declared.fault.FrameFault.{FrameFault}
use Rattle.fleet_gossip.specs.declared.fault.FrameFault.TheVariants.{BadMagic, BadVersion, Trailing}
use Rattle.fleet_gossip.specs.declared.bounds.TheConstants.{LONGEST_FRAME}
use Rattle.fleet_gossip.proofs.Entries.{entry_of, entry_or_fault, entry_exact}
use Rattle.fleet_gossip.proofs.Frames.{all_pushed}
use Rattle.fleet_gossip.proofs.Packing.{entries_push}

-- After a first number of two octets.
module _ (octets left : List ℕ) (n : ℕ) (is : octets ≡ u16_octets n ++ left) where
  pub bad_magic : (n ≡ MAGIC → ⊥) → FrameFieldsFail octets BadMagic
  bad_magic unlike = refused n left is unlike refl

  module _ (same : n ≡ MAGIC) where
    pub version_cut : (f : FrameFault) → AreMissing 1 left f → FrameFieldsFail octets f
    version_cut f h = behind n left is same (cut h.0 h.1)

    module _ (v : ℕ) (rest : List ℕ) (lies : left ≡ octet v ++ rest) where
      pub bad_version : (IsVersion v → ⊥) → FrameFieldsFail octets BadVersion
      bad_version unlike = behind n left is same (refused v rest lies unlike refl)

      module _ (one : IsVersion v) where
        pub count_cut : (f : FrameFault) → AreMissing 2 rest f → FrameFieldsFail octets f
        count_cut f h = behind n left is same (behind v rest lies one (cut h.0 h.1))

        pub opening_read : (count : ℕ) (more : List ℕ) → rest ≡ u16_octets count ++ more
            → IsOpening octets v count more
        opening_read count more e = record {
          whole = is ∙ (ap (λ (k : ℕ). u16_octets k ++ left) same
              ∙ ap (λ (x : List ℕ). u16_octets MAGIC ++ x)
              (lies ∙ ap (λ (x : List ℕ). octet v ++ x) e));
          read = one;
        }

pub entries_fail : (octets rest : List ℕ) (version count : ℕ) (f : FrameFault)
    → IsOpening octets version count rest → length octets ≤ LONGEST_FRAME
    → EntriesFail version count rest f → FrameFails octets f
entries_fail octets rest version count f is fits h = inr (
  fits,
  behind MAGIC _ is.whole refl
      (behind version _ refl is.read (behind count rest refl tt h)),
)

-- one more entry
pub entry_more : (octets left rest : List ℕ) (version count : ℕ) (list new : List ObservationData)
    (o : ObservationData) → BeginsWithEntries octets version count list left → IsIn version o
    → left ≡ entry_octets o ++ rest → new ≡ list ++ o ∷ []
    → BeginsWithEntries octets version (count + 1) new rest
entry_more octets left rest version count list new o are is lies e =
    subst (λ (x : List ObservationData). BeginsWithEntries octets version (count + 1) x rest) (sym e)
    (record {
      whole = are.whole ∙ (ap (λ (x : List ℕ). entries list ++ x) lies
          ∙ (sym (append_assoc (entries list) (entry_octets o) rest)
          ∙ ap (λ (x : List ℕ). x ++ rest) (sym (entries_push list o))));
      lawful = all_pushed (IsIn version) list o are.lawful is;
      counted = omega (arith, are.counted, length-append list (o ∷ []));
    })

pub entry_fault : (octets left : List ℕ) (version at count : ℕ) (list : List ObservationData)
    (f : FrameFault) → BeginsWithEntries octets version at list left → at < count
    → EntryFails version left f → EntriesFail version count octets f
entry_fault octets left version at count list f are few h = entry_fails list left are.whole
    are.lawful
    (omega (arith, are.counted, few)) h

-- after the last entry
module _ (octets left : List ℕ) (version at : ℕ) (list : List ObservationData)
    (are : BeginsWithEntries octets version at list left) (count : ℕ) (all : at ≡ count) where
  some_of : (xs : List ℕ) → (xs ≡ [] → ⊥) → 0 < length xs
  some_of [] unlike = absurd (unlike refl)
  some_of (x ∷ xs) unlike = omega arith

  pub trails : (left ≡ [] → ⊥) → EntriesFail version count octets Trailing
  trails unlike = more_octets list left are.whole are.lawful (are.counted ∙ all)
      (some_of left unlike) refl

  pub all_lie : left ≡ [] → AreEntryOctets octets version count
  all_lie none = record {
    list = list;
    are = subst
        (λ (x : List ℕ). BeginsWithEntries octets version count list x) none
        (subst (λ (n : ℕ). BeginsWithEntries octets version n list left) all are);
  }

-- the observations of all entries
module _ (octets rest : List ℕ) (version count : ℕ) (list : List ObservationData)
    (is : IsOpening octets version count rest) (fits : length octets ≤ LONGEST_FRAME)
    (are : BeginsWithEntries rest version count list []) where
  pub spells_frame : SpellsFrame octets list
  spells_frame = record {
    version = version;
    read = is.read;
    lawful = are.lawful;
    spelled = is.whole
        ∙ (ap (λ (k : ℕ). u16_octets MAGIC ++ (octet version ++ (u16_octets k ++ rest)))
        (sym are.counted)
        ∙ ap (λ (x : List ℕ). u16_octets MAGIC
        ++ (octet version ++ (u16_octets (length list) ++ x)))
        (are.whole ∙ append-nil (entries list)));
    fits = fits;
  }

  pub has_entries : 0 < count → HasEntries octets
  has_entries some = record {
    list = list;
    spelled = spells_frame;
    some = λ e. omega (arith, some, are.counted, ap length e);
  }

-- The entries that are left, and the next one.
pub record IsNext (left : List ObservationData) (o : ObservationData) (rest : List ℕ) : Type 0 where
  pub others : List ObservationData
  pub left_is : left ≡ o ∷ others
  pub rest_is : rest ≡ entries others

pub next_fails : (version : ℕ) (left : List ObservationData) (octets : List ℕ) (f : FrameFault)
    → AreIn version left → octets ≡ entries left → 0 < length left → EntryFails version octets f
    → ⊥
next_fails version [] octets f lawful whole some h = omega (arith, some)
next_fails version (o ∷ left) octets f lawful whole some h =
    let in_it = lawful o (inl refl) in
    entry_or_fault o (entry_of o in_it.0) (entries left) f version in_it.1 octets whole h

pub next_of : (version : ℕ) (left : List ObservationData) (octets : List ℕ) (o : ObservationData)
    (rest : List ℕ)
    → AreIn version left → octets ≡ entries left → 0 < length left → IsObservation o
    → octets ≡ entry_octets o ++ rest → IsNext left o rest
next_of version [] octets o rest lawful whole some is lies = absurd (omega (arith, some))
next_of version (p ∷ left) octets o rest lawful whole some is lies =
    let one = entry_exact p o (entry_of p (lawful p (inl refl)).0) (entry_of o is) (entries left)
    rest (sym whole ∙ lies) in
    record {
      others = left;
      left_is = ap (λ (x : ObservationData). x ∷ left) one.0;
      rest_is = sym one.1;
    }

pub next_lawful : (version : ℕ) (left : List ObservationData) (o : ObservationData)
    (others : List ObservationData) → left ≡ o ∷ others → AreIn version left → AreIn version others
next_lawful version left o others e lawful = λ x h. lawful x
    (subst (λ (y : List ObservationData). Has y x) (sym e) (inr h))

pub entries_next : (octets : List ℕ) (made new left : List ObservationData)
    (o copy : ObservationData) (others : List ObservationData) → left ≡ o ∷ others
    → octets ≡ entries (made ++ left) → copy ≡ o → new ≡ made ++ copy ∷ []
    → octets ≡ entries (new ++ others)
entries_next octets made new left o copy others e is copied pushed =
    let all : made ++ left ≡ new ++ others =
    ap (λ (x : List ObservationData). made ++ x)
    (e ∙ ap (λ (x : ObservationData). x ∷ others) (sym copied))
    ∙ (sym (append_assoc made (copy ∷ []) others)
    ∙ ap (λ (x : List ObservationData). x ++ others) (sym pushed)) in
    is ∙ ap entries all

pub all_made : (octets : List ℕ) (made : List ObservationData) (version at count : ℕ)
    (left : List ObservationData) → AreIn version made → octets ≡ entries (made ++ left)
    → length made ≡ at → at + length left ≡ count → count ≤ at
    → BeginsWithEntries octets version count made []
all_made octets made version at count left lawful is n all past =
    record {
      whole = is ∙ (ap (λ (x : List ObservationData). entries (made ++ x))
          (nil_from_length left (omega (arith, all, past)))
          ∙ (ap entries (append-nil made) ∙ sym (append-nil (entries made))));
      lawful = lawful;
      counted = omega (arith, n, all, past);
    }

-- what holds of each fault
pub if_err : {T E : Type 0} (r : Result T E) (P : E → Type 0) → ((e : E) → P e) → IfErr r P
if_err (Ok v) P h = tt
if_err (Err e) P h = h e
