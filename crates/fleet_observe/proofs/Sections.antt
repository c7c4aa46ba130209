-- What more records of a section change.
-- Serves `end_of`, `follow`, `find_rrset`, `hop_at`, what `Sets` serves, and fleet_site,
-- fleet_world.
use Rattle.std.proofs.Common.{◌≡◌, ℕ, ◌⊎◌, inl, inr, List, [], ◌∷◌, ◌++◌, take, drop, ap, sym, ◌∙◌, refl, subst}
use Rattle.std.proofs.lemmas.List.{take-append-drop}
use Rattle.fleet_name.proofs.Lemmas.{has_left, has_right}
use Rattle.fleet_wire.specs.Record.{RecordData}
use Rattle.fleet_observe.specs.RrSet.{IsOfRrSet, InSet, IsEmpty, IsOnly}
use Rattle.fleet_observe.specs.steps.Following.{IsOf}
use Rattle.fleet_observe.proofs.Lists.{has_push}

pub in_left : (s more : List RecordData) (n : List (List ℕ)) (t : ℕ) (d : List ℕ) → InSet s n t d
    → InSet (s ++ more) n t d
in_left s more n t d h = record {
  carrier = h.carrier;
  member = has_left s more h.carrier h.member;
  is_of_rrset = h.is_of_rrset;
  rdata = h.rdata;
}

pub in_last : (s : List RecordData) (n : List (List ℕ)) (t : ℕ) (r : RecordData) → IsOfRrSet n t r
    → InSet (s ++ r ∷ []) n t r.rdata
in_last s n t r b = record {
  carrier = r;
  member = has_right s (r ∷ []) r (inl refl);
  is_of_rrset = b;
  rdata = refl;
}

pub in_cases : (s : List RecordData) (n : List (List ℕ)) (t : ℕ) (r : RecordData) (d : List ℕ)
    → InSet (s ++ r ∷ []) n t d → InSet s n t d ⊎ (IsOfRrSet n t r × (r.rdata ≡ d))
in_cases s n t r d h = elim (has_push s r h.carrier h.member) [
  | inl a ↦ inl (record { carrier = h.carrier; member = a; is_of_rrset = h.is_of_rrset; rdata = h.rdata })
  | inr e ↦ inr (
    subst (λ (x : RecordData). IsOfRrSet n t x) (sym e) h.is_of_rrset,
    ap (λ (x : RecordData). x.rdata) e ∙ h.rdata,
  )
]

pub empty_more : (s : List RecordData) (n : List (List ℕ)) (t : ℕ) (r : RecordData) → IsEmpty s n t
    → ¬ IsOfRrSet n t r → IsEmpty (s ++ r ∷ []) n t
empty_more s n t r none not_here d h = elim (in_cases s n t r d h) [
  | inl a ↦ none d a
  | inr b ↦
      not_here b.0
]

pub only_first : (s : List RecordData) (n : List (List ℕ)) (t : ℕ) (r : RecordData) → IsEmpty s n t
    → IsOfRrSet n t r → IsOnly (s ++ r ∷ []) n t r.rdata
only_first s n t r none b = record {
  member = in_last s n t r b;
  only = λ e h. elim (in_cases s n t r e h) [ inl a ↦ absurd (none e a) | inr k ↦ k.1 ];
}

pub only_same : (s : List RecordData) (n : List (List ℕ)) (t : ℕ) (r : RecordData) (d : List ℕ)
    → IsOnly s n t d → d ≡ r.rdata → IsOnly (s ++ r ∷ []) n t d
only_same s n t r d is same = record {
  member = in_left s (r ∷ []) n t d is.member;
  only = λ e h. elim (in_cases s n t r e h) [ inl a ↦ is.only e a | inr k ↦ same ∙ k.1 ];
}

pub only_more : (s : List RecordData) (n : List (List ℕ)) (t : ℕ) (r : RecordData) (d : List ℕ)
    → IsOnly s n t d → ¬ IsOfRrSet n t r → IsOnly (s ++ r ∷ []) n t d
only_more s n t r d is not_here = record {
  member = in_left s (r ∷ []) n t d is.member;
  only = λ e h. elim (in_cases s n t r e h) [ inl a ↦ is.only e a | inr k ↦ absurd (not_here k.0) ];
}

pub in_whole : (xs : List RecordData) (i : ℕ) (n : List (List ℕ)) (t : ℕ) (d : List ℕ)
    → InSet (take i xs) n t d → InSet xs n t d
in_whole xs i n t d h = rw (take-append-drop i xs) at (in_left (take i xs) (drop i xs) n t d h)

-- the RRset has this record, and no other RDATA
pub record IsOne (s : List RecordData) (n : List (List ℕ)) (t : ℕ) (r : RecordData) : Type 0 where
  pub of_set : IsOf s n t r
  pub only : IsOnly s n t r.rdata

pub of_left : (s more : List RecordData) (n : List (List ℕ)) (t : ℕ) (r : RecordData)
    → IsOf s n t r → IsOf (s ++ more) n t r
of_left s more n t r h = record { member = has_left s more r h.member; is_of_rrset = h.is_of_rrset }

pub of_last : (s : List RecordData) (n : List (List ℕ)) (t : ℕ) (r : RecordData) → IsOfRrSet n t r
    → IsOf (s ++ r ∷ []) n t r
of_last s n t r b = record { member = has_right s (r ∷ []) r (inl refl); is_of_rrset = b }

pub in_of : (s : List RecordData) (n : List (List ℕ)) (t : ℕ) (r : RecordData) → IsOf s n t r
    → InSet s n t r.rdata
in_of s n t r h = record { carrier = r; member = h.member; is_of_rrset = h.is_of_rrset; rdata = refl }

pub one_first : (s : List RecordData) (n : List (List ℕ)) (t : ℕ) (r : RecordData) → IsEmpty s n t
    → IsOfRrSet n t r → IsOne (s ++ r ∷ []) n t r
one_first s n t r none b = record { of_set = of_last s n t r b; only = only_first s n t r none b }

pub one_same : (s : List RecordData) (n : List (List ℕ)) (t : ℕ) (r held : RecordData)
    → IsOne s n t held → held.rdata ≡ r.rdata → IsOne (s ++ r ∷ []) n t held
one_same s n t r held is same = record {
  of_set = of_left s (r ∷ []) n t held is.of_set;
  only = only_same s n t r held.rdata is.only same;
}

pub one_more : (s : List RecordData) (n : List (List ℕ)) (t : ℕ) (r held : RecordData)
    → IsOne s n t held → ¬ IsOfRrSet n t r → IsOne (s ++ r ∷ []) n t held
one_more s n t r held is out = record {
  of_set = of_left s (r ∷ []) n t held is.of_set;
  only = only_more s n t r held.rdata is.only out;
}

pub of_whole : (xs : List RecordData) (i : ℕ) (n : List (List ℕ)) (t : ℕ) (r : RecordData)
    → IsOf (take i xs) n t r → IsOf xs n t r
of_whole xs i n t r h = rw (take-append-drop i xs) at (of_left (take i xs) (drop i xs) n t r h)

-- a record of an RRset is of the RRset at its own name
pub in_of_own : (s : List RecordData) (n : List (List ℕ)) (t : ℕ) (r : RecordData) → IsOf s n t r
    → InSet s r.name t r.rdata
in_of_own s n t r h = record {
  carrier = r;
  member = h.member;
  is_of_rrset = record {
    class = h.is_of_rrset.class;
    rtype = h.is_of_rrset.rtype;
    typed = h.is_of_rrset.typed;
    owner = refl;
  };
  rdata = refl;
}
