-- RDATAs in ascending order, and TTLs.
-- Serves `add`, `least_ttl`, `rrset_at`, what `LawfulMeanings` serves, and fleet_site, fleet_world.
use Rattle.std.proofs.Common.{◌≡◌, ℕ, suc, zero, ◌≤◌, ◌⊎◌, inl, inr, true, false, if◌then◌else◌, min, nat_le, List, [], ◌∷◌, ◌++◌, ap, sym, ◌∙◌, refl, arith, subst}
use mathlib.Core.Bool.{false≢true}
use Rattle.std.specs.List.{insert}
use Rattle.std.specs.declared.cmp.Ordering.{Ordering}
use Rattle.std.specs.declared.cmp.Ordering.TheVariants.{Less, Equal, Greater}
use Rattle.std.specs.Ordering.{nat_cmp, is_lt, ordering_reverse}
use Rattle.std.specs.Cmp.Lexicographic.{slice_cmp}
use Rattle.std.proofs.lemmas.Bool.{cases_Bool}
use Rattle.std.proofs.lemmas.Cmp.{nat_list_cmp_total}
use Rattle.std.proofs.lemmas.Map.Lookups.{exact_bytes}
use Rattle.fleet_wire.specs.Record.{RecordData}
use Rattle.fleet_observe.specs.Members.{Has, IsAscending}
use Rattle.fleet_observe.specs.RrSet.{IsOfRrSet, InSet, IsTtl, read_ttl, count_below}
use Rattle.fleet_name.proofs.Lemmas.{has_left, has_right}
use Rattle.fleet_observe.proofs.Lists.{has_push}
use Rattle.fleet_observe.proofs.Sections.{in_left, in_last, in_cases}
use Rattle.fleet_observe.specs.declared.bounds.TheConstants.{LONGEST_LIFE}

less_from_test : (o : Ordering) → is_lt o ≡ true → o ≡ Less
less_from_test Less e = refl
less_from_test Equal e = absurd (false≢true e)
less_from_test Greater e = absurd (false≢true e)

more_from_tests : (o : Ordering) → is_lt o ≡ false → ¬ (o ≡ Equal) → ordering_reverse o ≡ Less
more_from_tests Less e f = absurd (false≢true (sym e))
more_from_tests Equal e f = absurd (f refl)
more_from_tests Greater e f = refl

put : List ℕ → List (List ℕ) → List (List ℕ)
put d [] = d ∷ []
put d (y ∷ ys) = if is_lt (slice_cmp nat_cmp y d) then y ∷ put d ys else d ∷ y ∷ ys

insert_put : (d : List ℕ) (ys : List (List ℕ)) → insert ys (count_below d ys) d ≡ put d ys
unfolding put
insert_put d [] = refl
insert_put d (y ∷ ys) = elim (cases_Bool (is_lt (slice_cmp nat_cmp y d))) [
  | inl k ↦ rw k (ap (λ (t : List (List ℕ)). y ∷ t) (insert_put d ys))
  | inr k ↦ rw k refl
]

from_put : (d : List ℕ) (ys : List (List ℕ)) (z : List ℕ) → Has (put d ys) z → Has ys z ⊎ (d ≡ z)
unfolding put
from_put d [] z (inl e) = inr e
from_put d [] z (inr h) = absurd h
from_put d (y ∷ ys) z h = elim (cases_Bool (is_lt (slice_cmp nat_cmp y d))) [
  | inl k ↦ elim (rw k at h) [
    | inl e ↦ inl (inl e)
    | inr rest ↦ elim (from_put d ys z rest) [ inl a ↦ inl (inr a) | inr e ↦ inr e ]
  ]
  | inr k ↦ elim (rw k at h) [ inl e ↦ inr e | inr rest ↦ inl rest ]
]

in_put : (d : List ℕ) (ys : List (List ℕ)) (z : List ℕ) → Has ys z ⊎ (d ≡ z) → Has (put d ys) z
unfolding put
in_put d [] z (inl h) = absurd h
in_put d [] z (inr e) = inl e
in_put d (y ∷ ys) z h = elim (cases_Bool (is_lt (slice_cmp nat_cmp y d))) [
  | inl k ↦ rw k (elim h [
    | inl old ↦ elim old [ inl e ↦ inl e | inr r ↦ inr (in_put d ys z (inl r)) ]
    | inr e ↦ inr (in_put d ys z (inr e))
  ])
  | inr k ↦ rw k (elim h [ inl old ↦ inr old | inr e ↦ inl e ])
]

put_ascending : (d : List ℕ) (ys : List (List ℕ)) → ¬ Has ys d → IsAscending ys
    → IsAscending (put d ys)
unfolding put
put_ascending d [] out up = ((λ y h. absurd h), tt)
put_ascending d (y ∷ ys) out up = elim (cases_Bool (is_lt (slice_cmp nat_cmp y d))) [
  | inl k ↦ rw k (
    (λ z h. elim (from_put d ys z h) [
      | inl old ↦ up.0 z old
      | inr e ↦
          subst (λ (x : List ℕ). slice_cmp nat_cmp y x ≡ Less) e (less_from_test _ k)
    ]),
    put_ascending d ys (λ h. out (inr h)) up.1,
  )
  | inr k ↦
      let below : slice_cmp nat_cmp d y ≡ Less = nat_list_cmp_total.antisymm d y
      ∙ more_from_tests _ k (λ e. out (inl (exact_bytes y d e))) in
      rw k (
        (λ z h. elim h [
          | inl e ↦ subst (λ (x : List ℕ). slice_cmp nat_cmp d x ≡ Less) e
              below
          | inr old ↦ nat_list_cmp_total.trans d y z below (up.0 z old)
        ]),
        up,
      )
]

pub insert_ascending : (d : List ℕ) (ys : List (List ℕ)) (at : ℕ) → at ≡ count_below d ys
    → ¬ Has ys d → IsAscending ys → IsAscending (insert ys at d)
insert_ascending d ys at is out up = rw (is, insert_put d ys) (put_ascending d ys out up)

pub insert_members : (d : List ℕ) (ys : List (List ℕ)) (at : ℕ) → at ≡ count_below d ys
    → (z : List ℕ) → (Has (insert ys at d) z → Has ys z ⊎ (d ≡ z)) × (Has ys z ⊎ (d ≡ z)
    → Has (insert ys at d) z)
insert_members d ys at is z = rw (is, insert_put d ys) (from_put d ys z, in_put d ys z)

-- the RDATAs are those of the records so far
pub record AreThose (s : List RecordData) (n : List (List ℕ)) (t : ℕ)
    (rdatas : List (List ℕ)) : Type 0 where
  pub ascending : IsAscending rdatas
  pub of_section : (d : List ℕ) → Has rdatas d → InSet s n t d
  pub whole : (d : List ℕ) → InSet s n t d → Has rdatas d

pub those_none : (n : List (List ℕ)) (t : ℕ) (rdatas : List (List ℕ)) → rdatas ≡ []
    → AreThose [] n t rdatas
those_none n t rdatas e = rw e (record {
  ascending = tt;
  of_section = λ d h. absurd h;
  whole = λ d h. absurd h.member;
})

pub those_kept : (s : List RecordData) (n : List (List ℕ)) (t : ℕ) (r : RecordData)
    (rdatas : List (List ℕ)) → AreThose s n t rdatas → ¬ IsOfRrSet n t r
    → AreThose (s ++ r ∷ []) n t rdatas
those_kept s n t r rdatas is out = record {
  ascending = is.ascending;
  of_section = λ d h. in_left s (r ∷ []) n t d (is.of_section d h);
  whole = λ d h. elim (in_cases s n t r d h) [ inl a ↦ is.whole d a | inr b ↦ absurd (out b.0) ];
}

pub those_more : (s : List RecordData) (n : List (List ℕ)) (t : ℕ) (r : RecordData)
    (old new : List (List ℕ)) → AreThose s n t old → IsOfRrSet n t r
    → IsAscending new → ((d : List ℕ) → (Has new d → Has old d ⊎ (r.rdata ≡ d))
    × (Has old d ⊎ (r.rdata ≡ d) → Has new d)) → AreThose (s ++ r ∷ []) n t new
those_more s n t r old new is b up same = record {
  ascending = up;
  of_section = λ d h. elim ((same d).0 h) [
    | inl a ↦ in_left s (r ∷ []) n t d (is.of_section d a)
    | inr e ↦ subst (λ (x : List ℕ). InSet (s ++ r ∷ []) n t x) e (in_last s n t r b)
  ];
  whole = λ d h. elim (in_cases s n t r d h) [
    | inl a ↦ (same d).1 (inl (is.whole d a))
    | inr k ↦
        (same d).1 (inr k.1)
  ];
}

-- the least TTL so far, at first the longest life
pub record IsLeast (s : List RecordData) (n : List (List ℕ)) (t least : ℕ) : Type 0 where
  pub bound : least ≤ LONGEST_LIFE
  pub under : (r : RecordData) → Has s r → IsOfRrSet n t r → least ≤ read_ttl r.ttl
  pub found : (least ≡ LONGEST_LIFE) ⊎ ((r : RecordData) × Has s r × IsOfRrSet n t r
      × (least ≡ read_ttl r.ttl))

pub least_kept : (s : List RecordData) (n : List (List ℕ)) (t : ℕ) (r : RecordData) (least : ℕ)
    → IsLeast s n t least → ¬ IsOfRrSet n t r → IsLeast (s ++ r ∷ []) n t least
least_kept s n t r least is out = record {
  bound = is.bound;
  under = λ x h b. elim (has_push s r x h) [
    | inl a ↦ is.under x a b
    | inr e ↦ absurd (out (subst (λ (y : RecordData). IsOfRrSet n t y) (sym e) b))
  ];
  found = elim is.found [
    | inl e ↦ inl e
    | inr f ↦ inr (
      f.0,
      has_left s (r ∷ []) f.0 f.1,
      f.2,
      f.3,
    )
  ];
}

pub least_more : (s : List RecordData) (n : List (List ℕ)) (t : ℕ) (r : RecordData) (least new : ℕ)
    → IsLeast s n t least → IsOfRrSet n t r → new ≡ min (read_ttl r.ttl) least
    → IsLeast (s ++ r ∷ []) n t new
least_more s n t r least new is b e =
    let one : new ≤ read_ttl r.ttl = rw e (omega arith) in
    let two : new ≤ least = rw e (omega arith) in
    record {
      bound = omega (arith, is.bound);
      under = λ x h k. elim (has_push s r x h) [
        | inl a ↦ trans_le new least (read_ttl x.ttl) two (is.under x a k)
        | inr same ↦ subst (λ (y : RecordData). new ≤ read_ttl y.ttl) same one
      ];
      found = which (read_ttl r.ttl) least new e is.found (
        r,
        has_right s (r ∷ []) r (inl refl),
        b,
        refl,
      );
    }
  where
    trans_le : (a b c : ℕ) → a ≤ b → b ≤ c → a ≤ c
    trans_le a b c p q = omega arith

    le_or : (a b : ℕ) → (a ≤ b) ⊎ (b ≤ a)
    le_or zero b = inl (omega arith)
    le_or (suc a) zero = inr (omega arith)
    le_or (suc a) (suc b) = elim (le_or a b) [
      | inl h ↦ inl (omega arith)
      | inr h ↦
          inr (omega arith)
    ]

    min_is : (a b : ℕ) → (min a b ≡ a) ⊎ (min a b ≡ b)
    min_is a b = elim (le_or a b) [ inl h ↦ inl (omega arith) | inr h ↦ inr (omega arith) ]

    which : (a b new : ℕ) → new ≡ min a b → (b ≡ LONGEST_LIFE)
        ⊎ ((x : RecordData) × Has s x × IsOfRrSet n t x × (b ≡ read_ttl x.ttl))
        → ((x : RecordData) × Has (s ++ r ∷ []) x × IsOfRrSet n t x × (a ≡ read_ttl x.ttl))
        → (new ≡ LONGEST_LIFE) ⊎ ((x : RecordData) × Has (s ++ r ∷ []) x × IsOfRrSet n t x
        × (new ≡ read_ttl x.ttl))
    which a b new e old here = elim (min_is a b) [
      | inl k ↦ inr (here.0, here.1, here.2, e ∙ (k ∙ here.3))
      | inr k ↦ elim old [
        | inl day ↦ inl (e ∙ (k ∙ day))
        | inr f ↦ inr (f.0, has_left s (r ∷ []) f.0 f.1, f.2, e ∙ (k ∙ f.3))
      ]
    ]

pub read_bound : (ttl : ℕ) → read_ttl ttl ≤ LONGEST_LIFE
read_bound ttl = elim (cases_Bool (nat_le 2147483648 ttl)) [
  | inl k ↦ rw k (omega arith)
  | inr k ↦
      rw k (omega arith)
]

pub least_all : (s : List RecordData) (n : List (List ℕ)) (t least : ℕ) → (d : List ℕ)
    × InSet s n t d → IsLeast s n t least → IsTtl s n t least
least_all s n t least some is = elim is.found [
  | inl day ↦ record {
    carrier = some.1.carrier;
    member = some.1.member;
    is_of_rrset = some.1.is_of_rrset;
    is = exact (read_ttl some.1.carrier.ttl) least day (is.under some.1.carrier some.1.member
        some.1.is_of_rrset) (read_bound some.1.carrier.ttl);
    least = is.under;
  }
  | inr f ↦ record { carrier = f.0; member = f.1; is_of_rrset = f.2; is = f.3; least = is.under }
]
  where
    exact : (r least : ℕ) → least ≡ LONGEST_LIFE → least ≤ r → r ≤ LONGEST_LIFE → least ≡ r
    exact r least day low high = omega arith
