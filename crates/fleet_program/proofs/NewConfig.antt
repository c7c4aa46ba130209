-- No address of a script appears twice.
-- Serves `new_config`.
use Rattle.std.proofs.Common.{◌≡◌, ℕ, zero, suc, ◌+◌, ◌<◌, ◌≤◌, List, [], ◌∷◌, ◌++◌, Some, None, length, true, false, nat_eq, refl, sym, ap, ◌∙◌, arith, lit≤, cond, length-append, subst}
use Rattle.std.proofs.lemmas.Option.{same_Some}
use Rattle.fleet_pending.specs.declared.addr.Addr.{Addr}
use Rattle.fleet_name.specs.Places.{At, NoTwo}
use Rattle.fleet_site.specs.Config.{ConfigFails, no_upstream, many_upstreams, many_peers, same_address}
use Rattle.fleet_site.specs.declared.config.ConfigFault.{ConfigFault}
use Rattle.fleet_program.specs.declared.fleet.TheConstants.{FIRST_UPSTREAM_PORT, FIRST_SITE_PORT}
use Rattle.fleet_program.specs.declared.words.TheConstants.{MOST_SITES}
use Rattle.fleet_program.specs.Settings.{upstreams, site_address, peers_of}

-- the ports ascend from low up to high, which is not reached
abbrev Ascend : ℕ → ℕ → List Addr → Type 0
Ascend low high [] = low ≤ high
Ascend low high (x ∷ xs) = (low ≤ x.port) × Ascend (suc x.port) high xs

ascend_more : (low high more : ℕ) (xs : List Addr) → high ≤ more → Ascend low high xs
    → Ascend low more xs
ascend_more low high more [] h a = omega (arith, h, a)
ascend_more low high more (x ∷ xs) h a = (a.0, ascend_more (suc x.port) high more xs h a.1)

ascend_push : (low high : ℕ) (xs : List Addr) (y : Addr) → high ≤ y.port → Ascend low high xs
    → Ascend low (suc y.port) (xs ++ y ∷ [])
ascend_push low high [] y h a = (omega (arith, h, a), omega arith)
ascend_push low high (x ∷ xs) y h a = (a.0, ascend_push (suc x.port) high xs y h a.1)

ascend_at : (low high : ℕ) (xs : List Addr) (i : ℕ) (x : Addr) → Ascend low high xs → At xs i x
    → low ≤ x.port
ascend_at low high [] i x a p = absurd (let e : None ≡ Some x = p in cc)
ascend_at low high (y ∷ xs) zero x a p =
    let e : y.port ≡ x.port = ap (λ (z : Addr). z.port) (same_Some y x p) in
    let b = a.0 in
    omega (arith, e, b)
ascend_at low high (y ∷ xs) (suc i) x a p =
    let b = ascend_at (suc y.port) high xs i x a.1 p in
    let l = a.0 in
    omega (arith, b, l)

-- so no two are the same
ascend_apart : (low high : ℕ) (xs : List Addr) → Ascend low high xs
    → NoTwo (λ (x y : Addr). x ≡ y) xs
ascend_apart low high [] a i j x y p q e = absurd (let b : None ≡ Some x = p in cc)
ascend_apart low high (z ∷ xs) a zero zero x y p q e = refl
ascend_apart low high (z ∷ xs) a zero (suc j) x y p q e =
    let above = ascend_at (suc z.port) high xs j y a.1 q in
    let same : z.port ≡ y.port = ap (λ (w : Addr). w.port) (same_Some z x p ∙ e) in
    absurd (omega (arith, above, same))
ascend_apart low high (z ∷ xs) a (suc i) zero x y p q e =
    let above = ascend_at (suc z.port) high xs i x a.1 p in
    let same : z.port ≡ x.port = ap (λ (w : Addr). w.port) (same_Some z y q ∙ sym e) in
    absurd (omega (arith, above, same))
ascend_apart low high (z ∷ xs) a (suc i) (suc j) x y p q e =
    ap suc (ascend_apart (suc z.port) high xs a.1 i j x y p q e)

-- the upstreams, and then the sites
addresses_ascend : (site count : ℕ) → Ascend FIRST_UPSTREAM_PORT (FIRST_SITE_PORT + count)
    (upstreams ++ peers_of site count)
addresses_ascend site zero = (lit≤ tt, (lit≤ tt, lit≤ tt))
addresses_ascend site (suc n) =
    let before = addresses_ascend site n in
    elim (nat_eq n site) as (λ b. Ascend FIRST_UPSTREAM_PORT (FIRST_SITE_PORT + suc n)
    (upstreams ++ cond b (peers_of site n) (peers_of site n ++ site_address n ∷ []))) [
      | true ↦ ascend_more FIRST_UPSTREAM_PORT (FIRST_SITE_PORT + n) (FIRST_SITE_PORT + suc n)
          (upstreams ++ peers_of site n)
          (omega arith) before
      | false ↦ ascend_more FIRST_UPSTREAM_PORT (suc (FIRST_SITE_PORT + n))
          (FIRST_SITE_PORT + suc n)
          (upstreams ++ (peers_of site n ++ site_address n ∷ [])) (omega arith)
          (ascend_push FIRST_UPSTREAM_PORT (FIRST_SITE_PORT + n) (upstreams ++ peers_of site n)
          (site_address n)
          (omega arith) before)
    ]

length_peers : (site count : ℕ) → length (peers_of site count) ≤ count
length_peers site zero = lit≤ tt
length_peers site (suc n) =
    let before = length_peers site n in
    elim (nat_eq n site) as (λ b.
    length (cond b (peers_of site n) (peers_of site n ++ site_address n ∷ [])) ≤ suc n) [
      | true ↦ omega (arith, before)
      | false ↦ grind (arith, length-append, before)
    ]

-- they make a configuration
none_fails : (site count : ℕ) → count ≤ MOST_SITES → (f : ConfigFault)
    → ConfigFails upstreams (peers_of site count) f → ⊥
none_fails site count few f (no_upstream none told) =
    let bad : 2 ≡ 0 = none in
    omega (arith, bad)
none_fails site count few f (many_upstreams many told) =
    let bad : 4 < 2 = many in
    omega (arith, bad)
none_fails site count few f (many_peers some many told) =
    let long = length_peers site count in
    omega (arith, long, many, few)
none_fails site count few f (same_address few_peers twice told) =
    twice (ascend_apart FIRST_UPSTREAM_PORT (FIRST_SITE_PORT + count)
    (upstreams ++ peers_of site count)
    (addresses_ascend site count))

pub none_fails_of : (xs ys : List Addr) (site count : ℕ) (f : ConfigFault) → xs ≡ upstreams
    → ys ≡ peers_of site count → count ≤ MOST_SITES → ConfigFails xs ys f → ⊥
none_fails_of xs ys site count f d e few h =
    let P : List Addr → Type 0 = λ us. ConfigFails us ys f in
    let Q : List Addr → Type 0 = λ ps. ConfigFails upstreams ps f in
    none_fails site count few f (subst Q e (subst P d h))
