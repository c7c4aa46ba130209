-- Addresses that stand before them too.
-- Serves `find_twice`.
use Rattle.std.proofs.Common.{◌≡◌, ◌≢◌, ℕ, ◌+◌, ◌<◌, ◌≤◌, ◌⊎◌, Bool, true, false, MatchBool, List, [], ◌∷◌, ◌++◌, length, take, get_or, inl, inr, refl, sym, ap, ◌∙◌, subst, arith}
use Rattle.std.specs.List.{AllWithin, HoldsAt}
use Rattle.std.proofs.lemmas.Bool.{cases_lt, false≢true, true≢false}
use Rattle.std.proofs.lemmas.List.{get_or-take, length-take}
use Rattle.std.proofs.lemmas.Option.{slice_get_within, slice_get-get_or, get_or_from_slice_get}
use Rattle.fleet_name.specs.Places.{At, NoTwo}
use Rattle.fleet_name.proofs.Lemmas.{at_map, at_mapped, at_same}
use Rattle.fleet_pending.specs.declared.addr.Addr.{Addr}
use Rattle.fleet_program.specs.Findings.{Adds, some, addrs_of}
use Rattle.fleet_program.specs.declared.findings.Stated.{Stated}
use Rattle.fleet_program.specs.declared.settings.SettingsFault.{SettingsFault}
use Rattle.fleet_program.specs.declared.settings.SettingsFault.TheVariants.{AddressTwice}
use Rattle.fleet_program.proofs.ListedFaults.{adds_as, adds_on}

-- no address before this place stands before it too
pub record NoneRepeats (addrs : List Addr) (at : ℕ) : Type 0 where
  pub apart : (i j : ℕ) (x y : Addr) → i < at → j < i → At addrs i x → At addrs j y → x ≡ y → ⊥

-- the address that is stated at a place
stated_at : (stated : List Stated) (i : ℕ) (d : Stated) → i < length stated
    → At (addrs_of stated) i (get_or stated i d).addr
stated_at stated i d within =
    at_map (λ (s : Stated). s.addr) stated i (get_or stated i d)
    (slice_get-get_or stated i d within)

-- the address at a place is none of those before it
none_repeats_on : (stated : List Stated) (at : ℕ) (d : Stated) → at < length stated
    → AllWithin (λ b. b.addr ≢ (get_or stated at d).addr) (take at stated) 0
    (length (take at stated))
    → NoneRepeats (addrs_of stated) at → NoneRepeats (addrs_of stated) (at + 1)
none_repeats_on stated at d within others r = record {
  apart = λ i j x y l m p q e. elim (cases_lt i at) [
    | inl k ↦ r.apart i j x y k m p q e
    | inr k ↦ here i j x y (omega arith) m p q e
  ];
}
  where
    here : (i j : ℕ) (x y : Addr) → i ≡ at → j < i → At (addrs_of stated) i x
        → At (addrs_of stated) j y → x ≡ y → ⊥
    here i j x y k m p q e =
        let b = at_mapped (λ (s : Stated). s.addr) stated j y q in
        let l : j < at = omega arith in
        let g : get_or (take at stated) j b.0 ≡ b.0 =
        get_or-take at stated j b.0 l ∙ get_or_from_slice_get stated j b.0 b.0 b.1 in
        let same : x ≡ (get_or stated at d).addr =
        at_same (addrs_of stated) at x (get_or stated at d).addr
        (subst (λ n. At (addrs_of stated) n x) k p) (stated_at stated at d within) in
        others j b.0 (omega arith) (omega (arith, length-take {A = Stated}))
        (ap (λ (s : Stated). s.addr) g ∙ (b.2 ∙ (sym e ∙ same)))

-- an address that stands before this place too
repeats : (stated : List Stated) (at : ℕ) (d : Stated) → at < length stated
    → (k : ℕ) × (k < length (take at stated))
    × HoldsAt (λ b. b.addr ≡ (get_or stated at d).addr) (take at stated) k
    → NoTwo (λ (x y : Addr). x ≡ y) (addrs_of stated) → ⊥
repeats stated at d within (k, l, same) apart =
    let m : k < at = omega (arith, length-take {A = Stated}) in
    let n : k < length stated = omega arith in
    let e : (get_or stated k d).addr ≡ (get_or stated at d).addr =
    ap (λ (s : Stated). s.addr) (sym (get_or-take at stated k d m)) ∙ same d in
    let q : k ≡ at = apart k at (get_or stated k d).addr (get_or stated at d).addr
    (stated_at stated k d n) (stated_at stated at d within) e in
    omega arith

-- no address before this place stands before it too, or faults were added
abbrev pub IfNoneRepeats : List Stated → ℕ → List SettingsFault → List SettingsFault → Type 0
IfNoneRepeats stated at a b = Adds (NoneRepeats (addrs_of stated) at)
    (λ fault. (NoTwo (λ (x y : Addr). x ≡ y) (addrs_of stated) → ⊥) × (fault ≡ AddressTwice)) a b

-- one more address was looked at, and a fault added if it stands before it too
pub if_none_repeats_on : (stated : List Stated) (at : ℕ) (d : Stated) (found : Bool)
    (a b c : List SettingsFault) → at < length stated
    → MatchBool found
    ((k : ℕ) × (k < length (take at stated))
    × HoldsAt (λ b. b.addr ≡ (get_or stated at d).addr) (take at stated) k)
    (AllWithin (λ b. b.addr ≢ (get_or stated at d).addr) (take at stated) 0
    (length (take at stated)))
    → IfNoneRepeats stated at a b
    → ((found ≡ true) × (c ≡ b ++ AddressTwice ∷ [])) ⊎ ((found ≡ false) × (c ≡ b))
    → IfNoneRepeats stated (at + 1) a c
if_none_repeats_on stated at d true a b c within hit r (inl h) =
    adds_on (NoneRepeats (addrs_of stated) at) ⊥ (NoneRepeats (addrs_of stated) (at + 1))
    (λ fault. (NoTwo (λ (x y : Addr). x ≡ y) (addrs_of stated) → ⊥) × (fault ≡ AddressTwice))
    (λ fault. fault ≡ AddressTwice)
    (λ fault. (NoTwo (λ (x y : Addr). x ≡ y) (addrs_of stated) → ⊥) × (fault ≡ AddressTwice))
    a b c r (some AddressTwice [] refl h.1) (λ fault q. q)
    (λ fault apart q. (repeats stated at d within hit, q)) (λ apart bad. absurd bad)
if_none_repeats_on stated at d true a b c within hit r (inr h) = absurd (true≢false h.0)
if_none_repeats_on stated at d false a b c within miss r (inl h) = absurd (false≢true h.0)
if_none_repeats_on stated at d false a b c within miss r (inr h) =
    subst (λ l. IfNoneRepeats stated (at + 1) a l) (sym h.1)
    (adds_as _ _ _ a b (none_repeats_on stated at d within miss) r)

-- none of all addresses stands before it too
pub none_repeats : (addrs : List Addr) (at : ℕ) → length addrs ≤ at → NoneRepeats addrs at
    → NoTwo (λ (x y : Addr). x ≡ y) addrs
none_repeats addrs at past r i j x y p q e =
    let k = slice_get_within addrs i x p in
    let l = slice_get_within addrs j y q in
    let f : i < j → ⊥ = λ m. r.apart j i y x (omega arith) m q p (sym e) in
    let g : j < i → ⊥ = λ m. r.apart i j x y (omega arith) m p q e in
    omega (arith, f, g)
