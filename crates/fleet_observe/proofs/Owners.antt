-- The owners of the NS RRsets of a section.
-- Serves `ns_sets`, `owns`.
use Rattle.std.proofs.Common.{◌≡◌, ℕ, ◌⊎◌, inl, inr, List, [], ◌∷◌, ◌++◌, ap, sym, ◌∙◌, refl, subst, arith, append_assoc, append-nil}
use Rattle.fleet_wire.specs.Record.{RecordData}
use Rattle.fleet_wire.specs.declared.rtype.TheConstants.{NS}
use Rattle.fleet_observe.specs.Members.{Has}
use Rattle.fleet_observe.specs.RrSet.{RrSetData, IsRrSet, InSet}
use Rattle.fleet_observe.specs.Observation.{IsDataType}
use Rattle.fleet_observe.specs.DigestOf.{IsNs, IsRepeated, AreOwners, owners_of}
use Rattle.fleet_observe.proofs.Lists.{has_push}

pub owners_of-append : (xs ys : List RrSetData) → owners_of (xs ++ ys) ≡ owners_of xs
    ++ owners_of ys
owners_of-append [] ys = refl
owners_of-append (x ∷ xs) ys = ap (λ (t : List (List (List ℕ))). x.name ∷ t)
    (owners_of-append xs ys)

-- each RRset has an owner that is listed
pub owner_listed : (xs : List RrSetData) (x : RrSetData) → Has xs x → Has (owners_of xs) x.name
owner_listed [] x h = absurd h
owner_listed (y ∷ xs) x (inl e) = inl (ap (λ (r : RrSetData). r.name) e)
owner_listed (y ∷ xs) x (inr h) = inr (owner_listed xs x h)

next : (before s : List RecordData) (x r : RecordData) (P : List RecordData → Type 0)
    → P (before ++ (x ∷ s)) → P ((before ++ x ∷ []) ++ s)
next before s x r P h = subst P (sym (append_assoc before (x ∷ []) s)) h

-- one more record whose owner no earlier one has
pub owners_new : (q : List (List ℕ)) (before s : List RecordData) (os : List (List (List ℕ)))
    (r : RecordData) → AreOwners q before s os → IsNs q r → ¬ IsRepeated q (before ++ s) r
    → AreOwners q before (s ++ r ∷ []) (os ++ r.name ∷ [])
owners_new q before [] os r h ns new =
    inl (ns, rw (append-nil before) at new, ([], rw h refl, refl))
owners_new q before (x ∷ s) os r (inl h) ns new =
    inl (
      h.0,
      h.1,
      (
        h.2.0 ++ r.name ∷ [],
        ap (λ (t : List (List (List ℕ))). t ++ r.name ∷ [])
            h.2.1,
        owners_new q (before ++ x ∷ []) s h.2.0 r h.2.2 ns
            (next before s x r (λ (b : List RecordData). ¬ IsRepeated q b r) new),
      ),
    )
owners_new q before (x ∷ s) os r (inr h) ns new = inr (
  h.0,
  owners_new q (before ++ x ∷ []) s os r
      h.1 ns (next before s x r (λ (b : List RecordData). ¬ IsRepeated q b r) new),
)

-- one more record that is passed over
pub owners_same : (q : List (List ℕ)) (before s : List RecordData) (os : List (List (List ℕ)))
    (r : RecordData) → AreOwners q before s os → (¬ IsNs q r) ⊎ IsRepeated q (before ++ s) r
    → AreOwners q before (s ++ r ∷ []) os
owners_same q before [] os r h passed = inr (rw (append-nil before) at passed, h)
owners_same q before (x ∷ s) os r (inl h) passed =
    inl (
      h.0,
      h.1,
      (
        h.2.0,
        h.2.1,
        owners_same q (before ++ x ∷ []) s h.2.0 r h.2.2
            (next before s x r (λ (b : List RecordData). (¬ IsNs q r) ⊎ IsRepeated q b r) passed),
      ),
    )
owners_same q before (x ∷ s) os r (inr h) passed = inr (
  h.0,
  owners_same q (before ++ x ∷ []) s os
      r h.1 (next before s x r (λ (b : List RecordData). (¬ IsNs q r) ⊎ IsRepeated q b r) passed),
)

-- each owner is that of a record
pub owner_known : (q : List (List ℕ)) (before s : List RecordData) (os : List (List (List ℕ)))
    (n : List (List ℕ)) → AreOwners q before s os → Has os n → (x : RecordData) × Has s x
    × IsNs q x × (x.name ≡ n)
owner_known q before [] os n h in_os = let nowhere = rw h at in_os in absurd nowhere
owner_known q before (x ∷ s) os n (inl h) in_os = elim (rw h.2.1 at in_os) [
  | inl e ↦ (x, inl refl, h.0, e)
  | inr more ↦ let k = owner_known q (before ++ x ∷ []) s h.2.0 n h.2.2 more in
      (k.0, inr k.1, k.2, k.3)
]
owner_known q before (x ∷ s) os n (inr h) in_os = let k = owner_known q (before ++ x ∷ []) s os n
    h.1 in_os in (k.0, inr k.1, k.2, k.3)

earlier_kept : (q : List (List ℕ)) (before : List RecordData) (x y : RecordData)
    → (y.name ≡ x.name) → IsRepeated q before y → IsRepeated q before x
earlier_kept q before x y e r = record {
  earlier = r.earlier;
  member = r.member;
  ns = r.ns;
  same = r.same ∙ e;
}

-- each such record has an owner that is listed, unless an earlier one has it
pub owner_kept : (q : List (List ℕ)) (before s : List RecordData) (os : List (List (List ℕ)))
    (x : RecordData) → AreOwners q before s os → Has s x → IsNs q x → Has os x.name
    ⊎ IsRepeated q before x
owner_kept q before [] os x h in_s ns = absurd in_s
owner_kept q before (y ∷ s) os x (inl h) (inl e) ns =
    inl (rw h.2.1 (inl (ap (λ (r : RecordData). r.name) e)))
owner_kept q before (y ∷ s) os x (inl h) (inr in_s) ns =
    elim (owner_kept q (before ++ y ∷ []) s h.2.0 x h.2.2 in_s ns) [
      | inl a ↦ inl (rw h.2.1 (inr a))
      | inr b ↦ elim (has_push before y b.earlier b.member) [
        | inl old ↦ inr (record { earlier = b.earlier; member = old; ns = b.ns; same = b.same })
        | inr e ↦ inl (rw h.2.1 (inl (ap (λ (r : RecordData). r.name) e ∙ b.same)))
      ]
    ]
owner_kept q before (y ∷ s) os x (inr h) (inl e) ns = elim h.0 [
  | inl other ↦ absurd (other (subst (λ (r : RecordData). IsNs q r) (sym e) ns))
  | inr old ↦ inr (earlier_kept q before x y (ap (λ (r : RecordData). r.name) e) old)
]
owner_kept q before (y ∷ s) os x (inr h) (inr in_s) ns = elim (owner_kept q (before ++ y ∷ []) s os
    x h.1 in_s ns) [
      | inl a ↦ inl a
      | inr b ↦ elim (has_push before y b.earlier b.member) [
        | inl old ↦ inr (record { earlier = b.earlier; member = old; ns = b.ns; same = b.same })
        | inr e ↦ elim h.0 [
          | inl other ↦ absurd (other (subst (λ (r : RecordData). IsNs q r) (sym e) b.ns))
          | inr old ↦ inr (earlier_kept q before x y (ap (λ (r : RecordData). r.name) e ∙ b.same) old)
        ]
      ]
    ]

pub ns_typed : IsDataType NS
ns_typed = record {
  short = omega arith;
  some = λ e. omega (arith, e);
  no_option = λ e. omega (arith, e);
  no_meta = λ low high. omega (arith, low);
}

-- an NS record of the section is of an RRset
pub ns_in : (s : List RecordData) (q : List (List ℕ)) (r : RecordData) → Has s r → IsNs q r
    → InSet s r.name NS r.rdata
ns_in s q r member ns = record {
  carrier = r;
  member = member;
  is_of_rrset = record {
    class = ns.class;
    rtype = ns.rtype;
    typed = ns_typed;
    owner = refl;
  };
  rdata = refl;
}

-- one more RRset of the section
pub each_more : (s : List RecordData) (sets : List RrSetData) (x : RrSetData) (n : List (List ℕ))
    → ((y : RrSetData) → Has sets y → IsRrSet s y.name NS y) → IsRrSet s n NS x → (y : RrSetData)
    → Has (sets ++ x ∷ []) y → IsRrSet s y.name NS y
each_more s sets x n each is y h = elim (has_push sets x y h) [
  | inl a ↦ each y a
  | inr e ↦ subst (λ (z : RrSetData). IsRrSet s z.name NS z) e
      (subst (λ (m : List (List ℕ)). IsRrSet s m NS x) (sym is.name) is)
]
