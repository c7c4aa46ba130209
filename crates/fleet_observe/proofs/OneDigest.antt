-- A reply means one thing.
-- Serves law `one_digest`, and fleet_site.
use Rattle.std.proofs.Common.{◌≡◌, ℕ, ◌≤◌, ◌⊎◌, inl, inr, Bool, true, false, List, [], ◌∷◌, ◌++◌, ap, sym, ◌∙◌, refl, subst, arith, Option, Some, None}
use mathlib.Core.Bool.{false≢true}
use Rattle.std.specs.declared.cmp.Ordering.TheVariants.{Less}
use Rattle.std.specs.Ordering.{nat_cmp}
use Rattle.std.specs.Cmp.Lexicographic.{slice_cmp}
use Rattle.std.proofs.lemmas.Cmp.{nat_list_cmp_total}
use Rattle.fleet_wire.specs.Record.{RecordData}
use Rattle.fleet_wire.specs.Message.{MessageData}
use Rattle.fleet_observe.specs.Members.{Has, IsAscending}
use Rattle.fleet_observe.specs.RrSet.{RrSetData, IsRrSet}
use Rattle.fleet_observe.specs.Walk.{AreLinks, last}
use Rattle.fleet_observe.specs.Soa.{SoaData}
use Rattle.fleet_observe.specs.Digest.{EndData, Records, NoData, NxDomain, Code, Truncated, DigestData}
use Rattle.fleet_observe.specs.DigestOf.{IsSoa, IsSoaOf, IsEnd, WalkEndsAs, EndsAs, IsNs, IsRepeated, AreOwners, owners_of, IsAuthority, IsDigest}
use Rattle.fleet_observe.proofs.Soas.{one_first}
use Rattle.fleet_observe.proofs.Walks.{walk_is}
use Rattle.fleet_observe.proofs.LawfulMeanings.{not_below_itself, set_some}
use Rattle.fleet_wire.specs.declared.rtype.TheConstants.{CNAME, NS}

-- octets in ascending order are known by their members
same_members : (xs ys : List (List ℕ)) → IsAscending xs → IsAscending ys
    → ((d : List ℕ) → Has xs d → Has ys d) → ((d : List ℕ) → Has ys d → Has xs d) → xs ≡ ys
same_members [] [] up up' to from = refl
same_members [] (y ∷ ys) up up' to from = absurd (from y (inl refl))
same_members (x ∷ xs) [] up up' to from = absurd (to x (inl refl))
same_members (x ∷ xs) (y ∷ ys) up up' to from =
    let first : x ≡ y = heads (to x (inl refl)) (from y (inl refl)) in
    let rest : xs ≡ ys = same_members xs ys up.1 up'.1
    (λ d h. elim (to d (inr h)) [
      | inl e ↦ absurd (not_below_itself x (subst (λ (z : List ℕ). slice_cmp nat_cmp x z ≡ Less)
          (sym (first ∙ e)) (up.0 d h)))
      | inr k ↦ k
    ])
    (λ d h. elim (from d (inr h)) [
      | inl e ↦ absurd (not_below_itself y (subst (λ (z : List ℕ). slice_cmp nat_cmp y z ≡ Less)
          (sym (sym first ∙ e)) (up'.0 d h)))
      | inr k ↦ k
    ]) in
    ap (λ (z : List ℕ). z ∷ xs) first ∙ ap (λ (zs : List (List ℕ)). y ∷ zs) rest
  where
    heads : Has (y ∷ ys) x → Has (x ∷ xs) y → x ≡ y
    heads (inl e) h = sym e
    heads (inr k) (inl e) = e
    heads (inr k) (inr h) = absurd (not_below_itself x (nat_list_cmp_total.trans x y x (up.0 y h)
        (up'.0 x k)))

set_with : List (List ℕ) → ℕ → ℕ → List (List ℕ) → RrSetData
set_with name rtype ttl rdatas = record { name = name; rtype = rtype; ttl = ttl; rdatas = rdatas }

same_set : (x y : RrSetData) → x.name ≡ y.name → x.rtype ≡ y.rtype → x.ttl ≡ y.ttl
    → x.rdatas ≡ y.rdatas → x ≡ y
unfolding set_with
same_set x y a b c d = let same : set_with x.name x.rtype x.ttl x.rdatas ≡ set_with y.name y.rtype
    y.ttl y.rdatas = rw (a, b, c, d) refl in same

least_is : (a b c d : ℕ) → a ≡ b → c ≡ d → a ≤ d → c ≤ b → a ≡ c
least_is a b c d e f g h = omega arith

one_set : (s : List RecordData) (n : List (List ℕ)) (t : ℕ) (x y : RrSetData) → IsRrSet s n t x
    → IsRrSet s n t y → x ≡ y
one_set s n t x y p q = same_set x y (p.name ∙ sym q.name) (p.rtype ∙ sym q.rtype)
    (least_is x.ttl _ y.ttl _ p.ttl.is q.ttl.is (p.ttl.least q.ttl.carrier q.ttl.member
    q.ttl.is_of_rrset) (q.ttl.least p.ttl.carrier p.ttl.member p.ttl.is_of_rrset))
    (same_members x.rdatas y.rdatas p.ascending q.ascending (λ d h. q.whole d (p.of_section d h))
    (λ d h. p.whole d (q.of_section d h)))

one_chain : (s : List RecordData) (n : List (List ℕ)) (later : List (List (List ℕ)))
    (a b : List RrSetData) → AreLinks s n later a → AreLinks s n later b → a ≡ b
one_chain s n [] [] [] p q = refl
one_chain s n [] [] (y ∷ b) p q = absurd q
one_chain s n [] (x ∷ a) b p q = absurd p
one_chain s n (m ∷ later) [] b p q = absurd p
one_chain s n (m ∷ later) (x ∷ a) [] p q = absurd q
one_chain s n (m ∷ later) (x ∷ a) (y ∷ b) p q =
    ap (λ (z : RrSetData). z ∷ a) (one_set s n CNAME x y p.0 q.0) ∙ ap (λ (zs : List RrSetData). y
    ∷ zs) (one_chain s m later a b p.1 q.1)

soa_with : List (List ℕ) → ℕ → List ℕ → SoaData
soa_with owner ttl rdata = record { owner = owner; ttl = ttl; rdata = rdata }

one_soa : (s : List RecordData) (n : List (List ℕ)) (x y : SoaData) → IsSoaOf s n x → IsSoaOf s n y
    → x ≡ y
unfolding soa_with
one_soa s n x y p q =
    let c : p.carrier ≡ q.carrier = one_first s p.carrier q.carrier p.counts.first q.counts.first in
    let same : soa_with x.owner x.ttl x.rdata ≡ soa_with y.owner y.ttl y.rdata =
    rw (p.owner, p.ttl, p.rdata, c, q.owner, q.ttl, q.rdata) refl in same

one_soa_if_any : (s : List RecordData) (n : List (List ℕ)) (x y : Option SoaData) → IsSoa s n x
    → IsSoa s n y → x ≡ y
one_soa_if_any s n None None p q = refl
one_soa_if_any s n None (Some y) p q = absurd (p q.carrier q.counts)
one_soa_if_any s n (Some x) None p q = absurd (q p.carrier p.counts)
one_soa_if_any s n (Some x) (Some y) p q = ap (λ (z : SoaData). Some z) (one_soa s n x y p q)

codes_apart : (c : ℕ) → c ≡ 0 → c ≡ 3 → ⊥
codes_apart c a b = omega (arith, a, b)

one_end : (r : MessageData) (n : List (List ℕ)) (x y : EndData) → IsEnd r n x → IsEnd r n y → x ≡ y
one_end r n (Code c) y p q = absurd p
one_end r n Truncated y p q = absurd p
one_end r n x (Code c) p q = absurd q
one_end r n x Truncated p q = absurd q
one_end r n (Records x) (Records y) p q = ap (λ (z : RrSetData). Records z)
    (one_set r.answer n r.question.rtype x y p q)
one_end r n (Records x) (NoData y) p q = let d = set_some r.answer n r.question.rtype x
    p in absurd (q.0.without d.0 d.1)
one_end r n (Records x) (NxDomain y) p q = let d = set_some r.answer n r.question.rtype x
    p in absurd (q.0.without d.0 d.1)
one_end r n (NoData x) (Records y) p q = let d = set_some r.answer n r.question.rtype y
    q in absurd (p.0.without d.0 d.1)
one_end r n (NxDomain x) (Records y) p q = let d = set_some r.answer n r.question.rtype y
    q in absurd (p.0.without d.0 d.1)
one_end r n (NoData x) (NoData y) p q = ap (λ (z : Option SoaData). NoData z)
    (one_soa_if_any r.authority n x y p.2 q.2)
one_end r n (NxDomain x) (NxDomain y) p q = ap (λ (z : Option SoaData). NxDomain z)
    (one_soa_if_any r.authority n x y p.2 q.2)
one_end r n (NoData x) (NxDomain y) p q = absurd (codes_apart r.header.rcode p.1 q.1)
one_end r n (NxDomain x) (NoData y) p q = absurd (codes_apart r.header.rcode q.1 p.1)

-- the three ways in which a reply ends
data Ending (r : MessageData) (chain : List RrSetData) (e : EndData) : Type 0 where
  walks : WalkEndsAs r chain e → Ending r chain e
  refuses : (r.header.tc ≡ false) → (¬ (r.header.rcode ≡ 0)) → (¬ (r.header.rcode ≡ 3))
      → e ≡ Code r.header.rcode → chain ≡ [] → Ending r chain e
  cuts : (r.header.tc ≡ true) → e ≡ Truncated → chain ≡ [] → Ending r chain e

ending_of : (r : MessageData) (chain : List RrSetData) (e : EndData) → EndsAs r chain e
    → Ending r chain e
ending_of r chain (Records x) t = walks t
ending_of r chain (NoData x) t = walks t
ending_of r chain (NxDomain x) t = walks t
ending_of r chain (Code c) t = refuses t.0 t.1 t.2 (ap (λ (z : ℕ). Code z) t.3) t.4
ending_of r chain Truncated t = cuts t.0 refl t.1

walks_refused : (r : MessageData) (chain : List RrSetData) (e : EndData) → WalkEndsAs r chain e
    → ¬ (r.header.rcode ≡ 0) → ¬ (r.header.rcode ≡ 3) → ⊥
walks_refused r chain e t one two = elim t.asks.code [ inl k ↦ one k | inr k ↦ two k ]

one_ending : (r : MessageData) (a b : List RrSetData) (x y : EndData) → Ending r a x
    → Ending r b y → (a ≡ b) × (x ≡ y)
one_ending r a b x y (walks p) (walks q) =
    let same : q.later ≡ p.later = walk_is r.answer r.question.rtype r.question.name p.later
    q.later p.walk.path p.walk.ends q.walk in (
      one_chain r.answer r.question.name p.later a b p.links (rw same at q.links),
      one_end r (last r.question.name p.later) x y p.end_is (rw same at q.end_is),
    )
one_ending r a b x y (walks p) (refuses c d e f g) = absurd (walks_refused r a x p d e)
one_ending r a b x y (walks p) (cuts c d e) = absurd (false≢true (sym p.asks.whole ∙ c))
one_ending r a b x y (refuses c d e f g) (walks q) = absurd (walks_refused r b y q d e)
one_ending r a b x y (refuses c d e f g) (refuses c' d' e' f' g') = (g ∙ sym g', f ∙ sym f')
one_ending r a b x y (refuses c d e f g) (cuts c' d' e') = absurd (false≢true (sym c ∙ c'))
one_ending r a b x y (cuts c d e) (walks q) = absurd (false≢true (sym q.asks.whole ∙ c))
one_ending r a b x y (cuts c d e) (refuses c' d' e' f' g') = absurd (false≢true (sym c' ∙ c))
one_ending r a b x y (cuts c d e) (cuts c' d' e') = (e ∙ sym e', d ∙ sym d')

passed_or_new : (q : List (List ℕ)) (before : List RecordData) (r : RecordData) → IsNs q r
    → ¬ IsRepeated q before r → ¬ ((¬ IsNs q r) ⊎ IsRepeated q before r)
passed_or_new q before r ns new (inl other) = other ns
passed_or_new q before r ns new (inr old) = new old

one_owners : (q : List (List ℕ)) (before s : List RecordData) (a b : List (List (List ℕ)))
    → AreOwners q before s a → AreOwners q before s b → a ≡ b
one_owners q before [] a b h k = h ∙ sym k
one_owners q before (r ∷ s) a b (inl h) (inl k) =
    h.2.1 ∙ (ap (λ (z : List (List (List ℕ))). r.name ∷ z) (one_owners q (before ++ r ∷ []) s h.2.0
    k.2.0 h.2.2 k.2.2) ∙ sym k.2.1)
one_owners q before (r ∷ s) a b (inl h) (inr k) = absurd (passed_or_new q before r h.0 h.1 k.0)
one_owners q before (r ∷ s) a b (inr h) (inl k) = absurd (passed_or_new q before r k.0 k.1 h.0)
one_owners q before (r ∷ s) a b (inr h) (inr k) = one_owners q (before ++ r ∷ []) s a b h.1 k.1

one_sets : (s : List RecordData) (a b : List RrSetData) → owners_of a ≡ owners_of b
    → ((x : RrSetData) → Has a x → IsRrSet s x.name NS x)
    → ((x : RrSetData) → Has b x → IsRrSet s x.name NS x) → a ≡ b
one_sets s [] [] e p q = refl
one_sets s [] (y ∷ b) e p q = absurd (cc)
one_sets s (x ∷ a) [] e p q = absurd (cc)
one_sets s (x ∷ a) (y ∷ b) e p q =
    let first : x.name ≡ y.name = cc in let rest : owners_of a ≡ owners_of b = cc in
    let same = one_set s y.name NS x y (subst (λ (n : List (List ℕ)). IsRrSet s n NS x) first
    (p x (inl refl))) (q y (inl refl)) in
    ap (λ (z : RrSetData). z ∷ a) same ∙ ap (λ (zs : List RrSetData). y ∷ zs)
    (one_sets s a b rest (λ z h. p z (inr h)) (λ z h. q z (inr h)))

one_authority : (r : MessageData) (a b : List RrSetData) → IsAuthority r a → IsAuthority r b → a ≡ b
one_authority r a b (inl p) (inl q) = one_sets r.authority a b (one_owners r.question.name []
    r.authority (owners_of a) (owners_of b) p.1.owners q.1.owners) p.1.each q.1.each
one_authority r a b (inl p) (inr q) = absurd (q.0 p.0)
one_authority r a b (inr p) (inl q) = absurd (p.0 q.0)
one_authority r a b (inr p) (inr q) = p.1 ∙ sym q.1

digest_with : List (List ℕ) → ℕ → Bool → List RrSetData → EndData → List RrSetData → DigestData
digest_with name rtype aa chain e ns = record {
  name = name;
  rtype = rtype;
  aa = aa;
  chain = chain;
  end = e;
  ns = ns;
}

pub meaning_is : (r : MessageData) (a b : DigestData) → IsDigest r a → IsDigest r b → a ≡ b
unfolding digest_with
meaning_is r a b p q =
    let ends_as = one_ending r a.chain b.chain a.end b.end (ending_of r a.chain a.end p.ends_as)
    (ending_of r b.chain b.end q.ends_as) in
    let ns = one_authority r a.ns b.ns p.authority q.authority in
    let same : digest_with a.name a.rtype a.aa a.chain a.end a.ns ≡ digest_with b.name b.rtype b.aa
    b.chain b.end b.ns = rw (
      p.name,
      q.name,
      p.rtype,
      q.rtype,
      p.aa,
      q.aa,
      ends_as.0,
      ends_as.1,
      ns,
    ) refl in
    same
