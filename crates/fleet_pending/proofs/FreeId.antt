-- The first id that no entry has.
-- Serves `first_free_id`, `mark_taken`.
use Rattle.std.proofs.Common.{◌≡◌, ℕ, zero, suc, ◌+◌, ◌%◌, ◌<◌, ◌≤◌, ◌⊎◌, inl, inr, Bool, true, false, List, length, slice_set, get_or, replicate, length-set, refl, sym, ◌∙◌, subst, ap, arith, ◌≢◌}
use Rattle.std.specs.List.{remove}
use Rattle.std.proofs.lemmas.List.Edits.{length-remove}
use Rattle.std.proofs.lemmas.Option.{slice_get_within}
use Rattle.std.proofs.lemmas.Bool.{cases_eq}
use Rattle.std.proofs.lemmas.List.{get_or-set_other, get_or-replicate}
use Rattle.std.proofs.lemmas.Grind.{get_or-set_at}
use Rattle.fleet_name.specs.Places.{At}
use Rattle.fleet_pending.specs.declared.bounds.TheConstants.{MOST_ENTRIES}
use Rattle.fleet_pending.specs.FreeId.{TakenTo, AreTakenIds}
use Rattle.fleet_pending.specs.PendingData.{EntryData, UsesId}
use Rattle.fleet_name.proofs.Lemmas.{at_same}
use Rattle.fleet_pending.proofs.Placed.{NoneBefore, at_left}

-- n + 1 different ids are not those of n entries
pub pigeon : (n : ℕ) (es : List EntryData) (f : ℕ → ℕ)
    → ((i j : ℕ) → i ≤ n → j ≤ n → f i ≡ f j → i ≡ j)
    → ((k : ℕ) → k ≤ n → (i : ℕ) × ((e : EntryData) × At es i e × (e.id ≡ f k))) → length es ≤ n → ⊥
pigeon zero es f d h l =
    let r = h 0 (omega arith) in
    let p : r.0 < length es = slice_get_within es r.0 r.1.0 r.1.1 in omega arith
pigeon (suc n) es f d h l =
    let r = h (suc n) (omega arith) in
    let p : r.0 < length es = slice_get_within es r.0 r.1.0 r.1.1 in
    let m : length (remove es r.0) + 1 ≡ length es = length-remove es r.0 p in
    pigeon n (remove es r.0) f (λ i j a b. d i j (omega arith) (omega arith))
    (λ k a. left k a r.0 r.1.0 r.1.1 r.1.2) (omega arith)
  where
    left : (k : ℕ) → k ≤ n → (i : ℕ) (e : EntryData) → At es i e → e.id ≡ f (suc n)
        → (j : ℕ) × ((x : EntryData) × At (remove es i) j x × (x.id ≡ f k))
    left k a i e t q =
        let s = h k (omega arith) in
        let ne : s.0 ≢ i = λ z. (let y : At es i s.1.0 = subst (λ v. At es v s.1.0) z s.1.1 in
        let w : f k ≡ f (suc n) = sym s.1.2 ∙ ap (λ v. v.id) (at_same es i s.1.0 e y t) ∙ q in
        let b : k ≡ suc n = d k (suc n) (omega arith) (omega arith) w in omega arith) in
        let x = at_left es i s.0 s.1.0 s.1.1 ne in
        (x.0, (s.1.0, x.1, s.1.2))

pub not_all_taken : (word : ℕ) (es : List EntryData) (n : ℕ) → MOST_ENTRIES ≤ n
    → length es < MOST_ENTRIES → TakenTo word es n → ⊥
not_all_taken word es n m l h =
    pigeon (length es) es (λ k. (word + k) % 65536) (λ i j a b e. apart i j a b e)
    (λ k a. h k (omega arith)) (omega arith)
  where
    apart : (i j : ℕ) → i ≤ length es → j ≤ length es → (word + i) % 65536 ≡ (word + j) % 65536
        → i ≡ j
    apart i j a b e = omega arith

-- the same, of the first n entries
pub record AreTakenTo (word : ℕ) (es : List EntryData) (n : ℕ) (taken : List Bool) : Type 0 where
  pub wide : length taken ≡ MOST_ENTRIES
  pub taken_ids : (k : ℕ) → k < MOST_ENTRIES → get_or taken k false ≡ true
      → (i : ℕ) × ((e : EntryData) × At es i e × UsesId ((word + k) % 65536) e)
  pub free_ids : (k : ℕ) → k < MOST_ENTRIES → get_or taken k false ≡ false
      → NoneBefore (UsesId ((word + k) % 65536)) es n

pub taken_none : (word : ℕ) (es : List EntryData)
    → AreTakenTo word es 0 (replicate MOST_ENTRIES false)
taken_none word es = record {
  wide = refl;
  taken_ids =
      λ k l t.
      absurd (let f : get_or (replicate MOST_ENTRIES false) k false ≡ false =
      get_or-replicate MOST_ENTRIES k false false l in cc);
  free_ids = λ k l f i x b. absurd (omega arith);
}

pub taken_all : (word : ℕ) (es : List EntryData) (n : ℕ) (taken : List Bool) → length es ≤ n
    → AreTakenTo word es n taken → AreTakenIds word es taken
taken_all word es n taken l h = record {
  taken_ids = h.taken_ids;
  free_ids =
      λ k m f i x a. h.free_ids k m f i x
      (let b : i < length es = slice_get_within es i x a in omega arith) a;
}

-- an entry more, whose id is this far from the word
pub taken_more : (word : ℕ) (es : List EntryData) (n passed : ℕ) (taken : List Bool) (x : EntryData)
    → At es n x → (passed + word) % 65536 ≡ x.id → passed < MOST_ENTRIES
    → AreTakenTo word es n taken → AreTakenTo word es (n + 1) (slice_set taken passed true)
taken_more word es n passed taken x t q l h = record {
  wide = length-set taken passed true ∙ h.wide;
  taken_ids = λ k m f. on k m f (cases_eq k passed);
  free_ids = λ k m f i y b a. off k m f i y b a (cases_eq k passed) (cases_eq i n);
}
  where
    on : (k : ℕ) → k < MOST_ENTRIES → get_or (slice_set taken passed true) k false ≡ true
        → (k ≡ passed) ⊎ (k ≢ passed)
        → (i : ℕ) × ((e : EntryData) × At es i e × UsesId ((word + k) % 65536) e)
    on k m f (inl z) =
        (n, (x, t, (let p : (passed + word) % 65536 ≡ x.id = q in omega (arith, p, z))))
    on k m f (inr z) = h.taken_ids k m (sym (get_or-set_other taken passed k true false z) ∙ f)

    off : (k : ℕ) → k < MOST_ENTRIES → get_or (slice_set taken passed true) k false ≡ false
        → (i : ℕ) (y : EntryData) → i < n + 1 → At es i y → (k ≡ passed) ⊎ (k ≢ passed)
        → (i ≡ n) ⊎ (i ≢ n) → UsesId ((word + k) % 65536) y → ⊥
    off k m f i y b a (inl z) w u =
        let v : get_or (slice_set taken passed true) k false ≡ true =
        get_or-set_at taken passed k true false z
        (let len : length taken ≡ MOST_ENTRIES = h.wide in omega arith) in
        let e : true ≡ false = sym v ∙ f in cc
    off k m f i y b a (inr z) (inl w) u =
        let s : y ≡ x = at_same es n y x (subst (λ j. At es j y) w a) t in
        let d : y.id ≡ x.id = ap (λ e. e.id) s in z (omega (arith, d, q, u))
    off k m f i y b a (inr z) (inr w) u =
        h.free_ids k m (sym (get_or-set_other taken passed k true false z) ∙ f) i y (omega arith) a
        u

-- an entry more, whose id is farther
pub taken_beyond : (word : ℕ) (es : List EntryData) (n passed : ℕ) (taken : List Bool)
    (x : EntryData) → At es n x → (passed + word) % 65536 ≡ x.id → MOST_ENTRIES ≤ passed
    → passed < 65536 → AreTakenTo word es n taken → AreTakenTo word es (n + 1) taken
taken_beyond word es n passed taken x t q l m h = record {
  wide = h.wide;
  taken_ids = h.taken_ids;
  free_ids = λ k b f i y c a. off k b f i y c a (cases_eq i n);
}
  where
    off : (k : ℕ) → k < MOST_ENTRIES → get_or taken k false ≡ false → (i : ℕ) (y : EntryData)
        → i < n + 1 → At es i y → (i ≡ n) ⊎ (i ≢ n) → UsesId ((word + k) % 65536) y → ⊥
    off k b f i y c a (inl w) u =
        let s : y ≡ x = at_same es n y x (subst (λ j. At es j y) w a) t in
        let d : y.id ≡ x.id = ap (λ e. e.id) s in omega (arith, d, q, u)
    off k b f i y c a (inr w) u = h.free_ids k b f i y (omega arith) a u

pub passed_more : (word : ℕ) (es : List EntryData) (n : ℕ) (taken : List Bool) → n < MOST_ENTRIES
    → AreTakenIds word es taken → get_or taken n false ≡ true → TakenTo word es n
    → TakenTo word es (n + 1)
passed_more word es n taken m h t s k l = go (cases_eq k n)
  where
    go : (k ≡ n) ⊎ (k ≢ n) → (i : ℕ) × ((e : EntryData) × At es i e × UsesId ((word + k) % 65536) e)
    go (inl z) = h.taken_ids k (omega arith) (ap (λ j. get_or taken j false) z ∙ t)
    go (inr z) = s k (omega arith)
