-- Things in a row, each spelled by octets that determine it: two rows at the front of the same
-- octets agree as far as both go.
-- Serves what `Bodies`, `Frames`, `Making`, `Names` serve.
use Rattle.std.proofs.Common.{◌≡◌, ℕ, ◌<◌, List, [], ◌∷◌, ◌++◌, length, refl, sym, ap, ◌∙◌, subst, arith, length-append, append_assoc}
use Rattle.std.specs.List.{flat_map}
use Rattle.fleet_gossip.specs.declared.fault.FrameFault.{FrameFault}

-- two rows and what is left after them: they are the same, or one goes on where the other ends
pub data Aligned (X : Type 0) (spelled : X → List ℕ) (xs ys : List X) (r s : List ℕ) : Type 0 where
  same : xs ≡ ys → r ≡ s → Aligned X spelled xs ys r s
  longer : (y : X) (more : List X) → ys ≡ xs ++ y ∷ more
      → r ≡ spelled y ++ (flat_map spelled more ++ s) → Aligned X spelled xs ys r s
  shorter : (x : X) (more : List X) → xs ≡ ys ++ x ∷ more
      → s ≡ spelled x ++ (flat_map spelled more ++ r) → Aligned X spelled xs ys r s

module _ (X : Type 0) (spelled : X → List ℕ) where
  one_more : (x y : X) (xs ys : List X) (r s : List ℕ) → x ≡ y → Aligned X spelled xs ys r s
      → Aligned X spelled (x ∷ xs) (y ∷ ys) r s
  one_more x y xs ys r s e (same a b) = same (ap (λ (z : X). z ∷ xs) e
      ∙ ap (λ (zs : List X). y ∷ zs) a) b
  one_more x y xs ys r s e (longer z more a b) =
      longer z more (ap (λ (zs : List X). y ∷ zs) a ∙ ap (λ (w : X). w ∷ (xs ++ z ∷ more)) (sym e))
      b
  one_more x y xs ys r s e (shorter z more a b) =
      shorter z more (ap (λ (zs : List X). x ∷ zs) a ∙ ap (λ (w : X). w ∷ (ys ++ z ∷ more)) e) b

  module _ (Lawful : List X → Type 0)
      (front : (before : List X) (x : X) (more : List X) → Lawful (before ++ x ∷ more)
      → Lawful (before ++ x ∷ []))
      (exact : (before : List X) (x y : X) (r s : List ℕ) → Lawful (before ++ x ∷ [])
      → Lawful (before ++ y ∷ []) → spelled x ++ r ≡ spelled y ++ s → (x ≡ y) × (r ≡ s)) where
    align_behind : (before xs ys : List X) (r s : List ℕ) → Lawful (before ++ xs)
        → Lawful (before ++ ys) → flat_map spelled xs ++ r ≡ flat_map spelled ys ++ s
        → Aligned X spelled xs ys r s
    align_behind before [] [] r s l l' e = same refl e
    align_behind before [] (y ∷ ys) r s l l' e =
        longer y ys refl (e ∙ append_assoc (spelled y) (flat_map spelled ys) s)
    align_behind before (x ∷ xs) [] r s l l' e =
        shorter x xs refl (sym e ∙ append_assoc (spelled x) (flat_map spelled xs) r)
    align_behind before (x ∷ xs) (y ∷ ys) r s l l' e =
        let whole : spelled x ++ (flat_map spelled xs ++ r) ≡ spelled y
        ++ (flat_map spelled ys ++ s) = sym (append_assoc (spelled x) (flat_map spelled xs) r)
        ∙ (e ∙ append_assoc (spelled y) (flat_map spelled ys) s) in
        let first = exact before x y (flat_map spelled xs ++ r) (flat_map spelled ys ++ s)
        (front before x xs l) (front before y ys l') whole in
        let left : Lawful ((before ++ x ∷ []) ++ xs) =
        subst (λ (z : List X). Lawful z) (sym (append_assoc before (x ∷ []) xs)) l in
        let swapped : Lawful (before ++ x ∷ ys) = subst (λ (z : X). Lawful (before ++ z ∷ ys))
        (sym first.0) l' in
        let right : Lawful ((before ++ x ∷ []) ++ ys) =
        subst (λ (z : List X). Lawful z) (sym (append_assoc before (x ∷ []) ys)) swapped in
        one_more x y xs ys r s first.0 (align_behind (before ++ x ∷ []) xs ys r s left right
        first.1)

    pub align : (xs ys : List X) (r s : List ℕ) → Lawful xs → Lawful ys → flat_map spelled xs ++ r
        ≡ flat_map spelled ys ++ s → Aligned X spelled xs ys r s
    align xs ys r s l l' e = align_behind [] xs ys r s l l' e

    module _ (Fails : List X → List ℕ → FrameFault → Type 0)
        (never : (before : List X) (y : X) (rest octets : List ℕ) (f : FrameFault)
        → Lawful (before ++ y ∷ []) → octets ≡ spelled y ++ rest → Fails before octets f
        → ⊥) where
      next_never : (before ys : List X) (y : X) (more : List X) (r s : List ℕ) (f : FrameFault)
          → Lawful ys → ys ≡ before ++ y ∷ more → r ≡ spelled y ++ s → Fails before r f → ⊥
      next_never before ys y more r s f l e is h =
          never before y s r f (front before y more (subst (λ (z : List X). Lawful z) e l)) is h

      -- where `count` of them are in a row, none fails after fewer of them
      fails_late : (before ys : List X) (r s : List ℕ) (f : FrameFault) → Lawful ys
          → length before < length ys → Fails before r f → Aligned X spelled before ys r s → ⊥
      fails_late before ys r s f l few h (same e e') = omega (arith, few, ap length e)
      fails_late before ys r s f l few h (longer y more e is) =
          next_never before ys y more r (flat_map spelled more ++ s) f l e is h
      fails_late before ys r s f l few h (shorter x more e is) =
          omega (arith, few, ap length e, length-append ys (x ∷ more))

      pub row_or_fault : (before ys : List X) (r s : List ℕ) (f : FrameFault) → Lawful before
          → Lawful ys → flat_map spelled before ++ r ≡ flat_map spelled ys ++ s
          → length before < length ys → Fails before r f → ⊥
      row_or_fault before ys r s f l l' e few h =
          fails_late before ys r s f l' few h (align before ys r s l l' e)

      module _ (one : (before : List X) (rest : List ℕ) (f g : FrameFault) → Fails before rest f
          → Fails before rest g → f ≡ g) where
        one_of : (xs ys : List X) (r s : List ℕ) (f g : FrameFault) → Lawful xs → Lawful ys
            → Fails xs r f → Fails ys s g → Aligned X spelled xs ys r s → f ≡ g
        one_of xs ys r s f g l l' h h' (same e e') =
            one ys s f g (subst (λ (z : List ℕ). Fails ys z f) e'
            (subst (λ (z : List X). Fails z r f) e h)) h'
        one_of xs ys r s f g l l' h h' (longer y more e is) =
            absurd (next_never xs ys y more r (flat_map spelled more ++ s) f l' e is h)
        one_of xs ys r s f g l l' h h' (shorter x more e is) =
            absurd (next_never ys xs x more s (flat_map spelled more ++ r) g l e is h')

        pub one_row_fault : (xs ys : List X) (r s : List ℕ) (f g : FrameFault) → Lawful xs
            → Lawful ys → flat_map spelled xs ++ r ≡ flat_map spelled ys ++ s → Fails xs r f
            → Fails ys s g → f ≡ g
        one_row_fault xs ys r s f g l l' e h h' =
            one_of xs ys r s f g l l' h h' (align xs ys r s l l' e)
