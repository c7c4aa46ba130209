-- The observations of a reply come each once.
-- Serves law `each_once`.
use Rattle.std.proofs.Common.{◌≡◌, ℕ, ◌<◌, ◌≤◌, ◌∙◌, inl, inr, Bool, true, false, nat_eq, nat_lt, List, [], ◌∷◌, ◌++◌, length, ap, sym, refl, subst, arith, if◌then◌else◌, Option, Some, None}
use Rattle.fleet_wire.specs.Record.{RecordData}
use Rattle.fleet_wire.specs.Message.{MessageData}
use Rattle.fleet_observe.specs.declared.rank.TheConstants.{OTHER, AUTHORITY, ANSWER}
use Rattle.fleet_observe.specs.Members.{Has, AllDistinct}
use Rattle.fleet_observe.specs.Observation.{ObservationData, kind_number}
use Rattle.fleet_observe.specs.RrSet.{RrSetData}
use Rattle.fleet_observe.specs.Walk.{last, IsWalk, AreLinks}
use Rattle.fleet_observe.specs.Soa.{SoaData}
use Rattle.fleet_observe.specs.Digest.{EndData, Records, NoData, NxDomain, Code, Truncated, DigestData, denied_by}
use Rattle.fleet_observe.specs.DigestOf.{EndsAs, IsNs, AreOwners, owners_of, IsAuthority, IsDigest}
use Rattle.fleet_observe.specs.Observations.{living_observation, set_observation, soa_observation, positive_observations, denial_observations, answer_rank, denial_rank, link_observations, end_observations, ns_observations, reply_observations}
use Rattle.fleet_name.proofs.Lemmas.{has_left, has_right, has_either}
use Rattle.fleet_observe.proofs.Walks.{walk_is}
use Rattle.fleet_observe.specs.declared.bounds.TheConstants.{LONGEST_BODY}
use Rattle.fleet_observe.specs.declared.observation.kind.Kind.{Kind}
use Rattle.fleet_observe.specs.declared.observation.kind.Kind.TheVariants.{NameError, NoData as KindNoData, Positive}

-- two lists of distinct values that share none
distinct_append : {X : Type 0} (xs ys : List X) → AllDistinct xs → AllDistinct ys
    → ((x : X) → Has xs x → Has ys x → ⊥) → AllDistinct (xs ++ ys)
distinct_append [] ys p q apart = q
distinct_append (x ∷ xs) ys p q apart = (
  λ h. elim (has_either xs ys x h) [ inl a ↦ p.0 a | inr b ↦ apart x (inl refl) b ],
  distinct_append xs ys p.1 q (λ z h k. apart z (inr h) k),
)

-- of one observation at most
kept_is : (left : Bool) (f o : ObservationData) → Has (if left then [] else f ∷ []) o → f ≡ o
kept_is true f o h = absurd h
kept_is false f o (inl e) = e
kept_is false f o (inr h) = absurd h

kept_distinct : (left : Bool) (f : ObservationData) → AllDistinct (if left then [] else f ∷ [])
kept_distinct true f = tt
kept_distinct false f = (λ h. absurd h, tt)

fitting_is : (left : Bool) (f o : ObservationData)
    → Has (if left then [] else living_observation f) o → f ≡ o
fitting_is true f o h = absurd h
fitting_is false f o h = kept_is (nat_eq f.life 0) f o h

fitting_distinct : (left : Bool) (f : ObservationData)
    → AllDistinct (if left then [] else living_observation f)
fitting_distinct true f = tt
fitting_distinct false f = kept_distinct (nat_eq f.life 0) f

positive_is : (x : RrSetData) (rank stamp : ℕ) (o : ObservationData)
    → Has (positive_observations x rank stamp) o → set_observation x rank stamp ≡ o
positive_is x rank stamp o h =
    fitting_is (nat_lt LONGEST_BODY (length (set_observation x rank stamp).body))
    (set_observation x rank stamp) o h

positive_distinct : (x : RrSetData) (rank stamp : ℕ)
    → AllDistinct (positive_observations x rank stamp)
positive_distinct x rank stamp = fitting_distinct
    (nat_lt LONGEST_BODY (length (set_observation x rank stamp).body))
    (set_observation x rank stamp)

negative_is : (kind : Kind) (n : List (List ℕ)) (t rank stamp : ℕ) (soa : Option SoaData)
    (o : ObservationData) → Has (denial_observations kind n t rank stamp soa) o → (kind ≡ o.kind)
    × (rank ≡ o.rank)
negative_is kind n t rank stamp None o h = absurd h
negative_is kind n t rank stamp (Some x) o h =
    let e = kept_is (nat_eq x.ttl 0) (soa_observation kind n t rank stamp x) o h in
    (ap (λ (f : ObservationData). f.kind) e, ap (λ (f : ObservationData). f.rank) e)

negative_distinct : (kind : Kind) (n : List (List ℕ)) (t rank stamp : ℕ) (soa : Option SoaData)
    → AllDistinct (denial_observations kind n t rank stamp soa)
negative_distinct kind n t rank stamp None = tt
negative_distinct kind n t rank stamp (Some x) = kept_distinct (nat_eq x.ttl 0)
    (soa_observation kind n t rank stamp x)

-- ranks of answers are not that of name servers
answer_not_two : (aa : Bool) (q owner : List (List ℕ)) → ¬ (answer_rank aa q owner ≡ AUTHORITY)
answer_not_two aa q owner = not_two (_)
  where
    not_two : (b : Bool) → ¬ (◌≡◌ {A = ℕ} (if b then ANSWER else OTHER) AUTHORITY)
    not_two true e = omega (arith, e)
    not_two false e = omega (arith, e)

denial_not_two : (aa : Bool) (chain : List RrSetData) → ¬ (denial_rank aa chain ≡ AUTHORITY)
denial_not_two true [] e = omega (arith, e)
denial_not_two false [] e = omega (arith, e)
denial_not_two aa (x ∷ xs) e = omega (arith, e)

-- an observation of a link
record OfLink (chain : List RrSetData) (o : ObservationData) : Type 0 where
  owner : Has (owners_of chain) o.name
  kind : o.kind ≡ Positive
  rank : ¬ (o.rank ≡ AUTHORITY)

link_is : (aa : Bool) (q : List (List ℕ)) (stamp : ℕ) (chain : List RrSetData)
    (o : ObservationData) → Has (link_observations aa q stamp chain) o → OfLink chain o
link_is aa q stamp [] o h = absurd h
link_is aa q stamp (x ∷ xs) o h =
    elim (has_either (positive_observations x (answer_rank aa q x.name) stamp)
    (link_observations aa q stamp xs) o h) [
      | inl a ↦ let e = positive_is x (answer_rank aa q x.name) stamp o a in
          record {
            owner = inl (ap (λ (f : ObservationData). f.name) e);
            kind = sym (ap (λ (f : ObservationData). f.kind) e);
            rank = λ two. answer_not_two aa q x.name (ap (λ (f : ObservationData). f.rank) e ∙ two);
          }
      | inr b ↦ let k = link_is aa q stamp xs o b in record {
        owner = inr k.owner;
        kind = k.kind;
        rank = k.rank;
      }
    ]

ns_is : (stamp : ℕ) (sets : List RrSetData) (o : ObservationData)
    → Has (ns_observations stamp sets) o → Has (owners_of sets) o.name × (o.rank ≡ AUTHORITY)
ns_is stamp [] o h = absurd h
ns_is stamp (x ∷ xs) o h = elim (has_either (positive_observations x AUTHORITY stamp)
    (ns_observations stamp xs) o h) [
      | inl a ↦ let e = positive_is x AUTHORITY stamp o a in
          (inl (ap (λ (f : ObservationData). f.name) e), sym (ap (λ (f : ObservationData). f.rank) e))
      | inr b ↦ let k = ns_is stamp xs o b in (inr k.0, k.1)
    ]

-- RRsets with distinct owners have distinct observations
link_distinct : (aa : Bool) (q : List (List ℕ)) (stamp : ℕ) (chain : List RrSetData)
    → AllDistinct (owners_of chain) → AllDistinct (link_observations aa q stamp chain)
link_distinct aa q stamp [] d = tt
link_distinct aa q stamp (x ∷ xs) d =
    distinct_append (positive_observations x (answer_rank aa q x.name) stamp)
    (link_observations aa q stamp xs) (positive_distinct x (answer_rank aa q x.name) stamp)
    (link_distinct aa q stamp xs d.1)
    (λ o h k. d.0 (subst (λ (n : List (List ℕ)). Has (owners_of xs) n)
    (sym (ap (λ (f : ObservationData). f.name) (positive_is x (answer_rank aa q x.name) stamp o
    h))) (link_is aa q stamp xs o k).owner))

ns_distinct : (stamp : ℕ) (sets : List RrSetData) → AllDistinct (owners_of sets)
    → AllDistinct (ns_observations stamp sets)
ns_distinct stamp [] d = tt
ns_distinct stamp (x ∷ xs) d =
    distinct_append (positive_observations x AUTHORITY stamp) (ns_observations stamp xs)
    (positive_distinct x AUTHORITY stamp) (ns_distinct stamp xs d.1)
    (λ o h k. d.0 (subst (λ (n : List (List ℕ)). Has (owners_of xs) n)
    (sym (ap (λ (f : ObservationData). f.name) (positive_is x AUTHORITY stamp o h)))
    (ns_is stamp xs o k).0))

-- the walk from the second name on
walk_tail : (s : List RecordData) (t : ℕ) (n m : List (List ℕ)) (later : List (List (List ℕ)))
    → IsWalk s t n (m ∷ later) → IsWalk s t m later
walk_tail s t n m later w = let k = w.short in
    record { path = w.path.1; ends = w.ends; short = omega arith }

-- a walk from the owner of a link, over one name at least and over as many as there are at most
record FromLink (s : List RecordData) (t : ℕ) (later : List (List (List ℕ)))
    (m : List (List ℕ)) : Type 0 where
  rest : List (List (List ℕ))
  walk : IsWalk s t m rest
  some : 1 ≤ length rest
  most : length rest ≤ length later

from_link : (s : List RecordData) (t : ℕ) (n : List (List ℕ)) (later : List (List (List ℕ)))
    (chain : List RrSetData) (m : List (List ℕ)) → IsWalk s t n later → AreLinks s n later chain
    → Has (owners_of chain) m → FromLink s t later m
from_link s t n later [] m w links h = absurd h
from_link s t n [] (x ∷ xs) m w links h = absurd links
from_link s t n (k ∷ later) (x ∷ xs) m w links (inl e) = record {
  rest = k ∷ later;
  walk = subst (λ (z : List (List ℕ)). IsWalk s t z (k ∷ later)) (sym links.0.name ∙ e) w;
  some = omega arith;
  most = omega arith;
}
from_link s t n (k ∷ later) (x ∷ xs) m w links (inr h) =
    let f = from_link s t k later xs m (walk_tail s t n k later w) links.1 h in let most = f.most in
    record { rest = f.rest; walk = f.walk; some = f.some; most = omega arith }

-- no two links have one owner
owners_of_links : (s : List RecordData) (t : ℕ) (n : List (List ℕ)) (later : List (List (List ℕ)))
    (chain : List RrSetData) → IsWalk s t n later → AreLinks s n later chain
    → AllDistinct (owners_of chain)
owners_of_links s t n later [] w links = tt
owners_of_links s t n [] (x ∷ xs) w links = absurd links
owners_of_links s t n (k ∷ later) (x ∷ xs) w links = (
  λ h. twice (from_link s t k later xs x.name (walk_tail s t n k later w) links.1 h),
  owners_of_links s t k later xs (walk_tail s t n k later w) links.1,
)
  where
    twice : ¬ FromLink s t later x.name
    twice f =
        let again = subst (λ (z : List (List ℕ)). IsWalk s t z f.rest) links.0.name f.walk in
        let same = ap length (walk_is s t n (k ∷ later) f.rest w.path w.ends again) in
        let most = f.most in
        omega arith

-- and none has the name where the walk ended
no_link_at_end : (s : List RecordData) (t : ℕ) (n : List (List ℕ)) (later : List (List (List ℕ)))
    (chain : List RrSetData) → IsWalk s t n later → AreLinks s n later chain
    → ¬ Has (owners_of chain) (last n later)
no_link_at_end s t n later chain w links h =
    let f = from_link s t n later chain (last n later) w links h in
    let same = ap length (walk_is s t (last n later) [] f.rest tt w.ends f.walk) in
    let some = f.some in
    omega arith

-- the owners of the links of a reply
chain_distinct : (r : MessageData) (chain : List RrSetData) (e : EndData) → EndsAs r chain e
    → AllDistinct (owners_of chain)
chain_distinct r chain (Records x) t = owners_of_links r.answer r.question.rtype
    r.question.name t.later chain t.walk t.links
chain_distinct r chain (NoData soa) t = owners_of_links r.answer r.question.rtype
    r.question.name t.later chain t.walk t.links
chain_distinct r chain (NxDomain soa) t = owners_of_links r.answer r.question.rtype
    r.question.name t.later chain t.walk t.links
chain_distinct r chain (Code c) t = subst (λ (xs : List RrSetData). AllDistinct (owners_of xs))
    (sym t.4) tt
chain_distinct r chain Truncated t = subst (λ (xs : List RrSetData). AllDistinct (owners_of xs))
    (sym t.1) tt

kinds_apart : (a b : Kind) → a ≡ b → kind_number a < 3 → b ≡ Positive → ⊥
kinds_apart a b e less three = let same = ap kind_number (e ∙ three) in omega (arith, same, less)

-- no link's observation is that of the end
end_apart : (r : MessageData) (d : DigestData) (stamp : ℕ) (e : EndData) (o : ObservationData)
    → EndsAs r d.chain e → OfLink d.chain o → ¬ Has (end_observations d stamp e) o
end_apart r d stamp (Records x) o t link h =
    let named = sym (ap (λ (f : ObservationData). f.name)
    (positive_is x (answer_rank d.aa d.name x.name) stamp o h)) ∙ t.end_is.name in
    no_link_at_end r.answer r.question.rtype r.question.name t.later d.chain t.walk t.links
    (subst (λ (n : List (List ℕ)). Has (owners_of d.chain) n) named link.owner)
end_apart r d stamp (NoData soa) o t link h =
    kinds_apart KindNoData o.kind (negative_is KindNoData (denied_by d.name d.chain) d.rtype
    (denial_rank d.aa d.chain) stamp soa o h).0 (omega arith) link.kind
end_apart r d stamp (NxDomain soa) o t link h =
    kinds_apart NameError o.kind (negative_is NameError (denied_by d.name d.chain) 0
    (denial_rank d.aa d.chain) stamp soa o h).0 (omega arith) link.kind
end_apart r d stamp (Code c) o t link h = h
end_apart r d stamp Truncated o t link h = h

end_distinct : (d : DigestData) (stamp : ℕ) (e : EndData) → AllDistinct (end_observations d stamp e)
end_distinct d stamp (Records x) = positive_distinct x (answer_rank d.aa d.name x.name) stamp
end_distinct d stamp (NoData soa) = negative_distinct KindNoData (denied_by d.name d.chain)
    d.rtype (denial_rank d.aa d.chain) stamp soa
end_distinct d stamp (NxDomain soa) = negative_distinct NameError (denied_by d.name d.chain) 0
    (denial_rank d.aa d.chain) stamp soa
end_distinct d stamp (Code c) = tt
end_distinct d stamp Truncated = tt

end_not_two : (d : DigestData) (stamp : ℕ) (e : EndData) (o : ObservationData)
    → Has (end_observations d stamp e) o → ¬ (o.rank ≡ AUTHORITY)
end_not_two d stamp (Records x) o h two =
    answer_not_two d.aa d.name x.name (ap (λ (f : ObservationData). f.rank)
    (positive_is x (answer_rank d.aa d.name x.name) stamp o h) ∙ two)
end_not_two d stamp (NoData soa) o h two =
    denial_not_two d.aa d.chain
    ((negative_is KindNoData (denied_by d.name d.chain) d.rtype (denial_rank d.aa d.chain) stamp
    soa o h).1 ∙ two)
end_not_two d stamp (NxDomain soa) o h two =
    denial_not_two d.aa d.chain
    ((negative_is NameError (denied_by d.name d.chain) 0 (denial_rank d.aa d.chain) stamp soa o
    h).1 ∙ two)
end_not_two d stamp (Code c) o h two = h
end_not_two d stamp Truncated o h two = h

-- no owner is that of an earlier record
owner_apart : (q : List (List ℕ)) (before s : List RecordData) (os : List (List (List ℕ)))
    (x : RecordData) → AreOwners q before s os → Has before x → IsNs q x → ¬ Has os x.name
owner_apart q before [] os x h earlier ns k = let nowhere = rw h at k in absurd nowhere
owner_apart q before (r ∷ s) os x (inl h) earlier ns k = elim (rw h.2.1 at k) [
  | inl e ↦ h.1 (record { earlier = x; member = earlier; ns = ns; same = sym e })
  | inr more ↦ owner_apart q (before ++ r ∷ []) s h.2.0 x h.2.2
      (has_left before (r ∷ []) x earlier) ns more
]
owner_apart q before (r ∷ s) os x (inr h) earlier ns k = owner_apart q (before ++ r ∷ []) s os x
    h.1 (has_left before (r ∷ []) x earlier) ns k

owners_distinct : (q : List (List ℕ)) (before s : List RecordData) (os : List (List (List ℕ)))
    → AreOwners q before s os → AllDistinct os
owners_distinct q before [] os h = subst (λ (xs : List (List (List ℕ))). AllDistinct xs) (sym h) tt
owners_distinct q before (r ∷ s) os (inl h) = subst (λ (xs : List (List (List ℕ))). AllDistinct xs)
    (sym h.2.1) (
      λ k. owner_apart q (before ++ r ∷ []) s h.2.0 r h.2.2 (has_right before (r ∷ []) r (inl refl))
          h.0 k,
      owners_distinct q (before ++ r ∷ []) s h.2.0 h.2.2,
    )
owners_distinct q before (r ∷ s) os (inr h) = owners_distinct q (before ++ r ∷ []) s os h.1

authority_distinct : (r : MessageData) (sets : List RrSetData) → IsAuthority r sets
    → AllDistinct (owners_of sets)
authority_distinct r sets (inl h) = owners_distinct r.question.name [] r.authority (owners_of sets)
    h.1.owners
authority_distinct r sets (inr h) = subst (λ (xs : List RrSetData). AllDistinct (owners_of xs))
    (sym h.1) tt

-- no two observations of a reply are equal
pub observed_distinct : (r : MessageData) (d : DigestData) (stamp : ℕ) → IsDigest r d
    → AllDistinct (reply_observations d stamp)
observed_distinct r d stamp m =
    let links = link_observations d.aa d.name stamp d.chain in
    let end = end_observations d stamp d.end in let ns = ns_observations stamp d.ns in
    distinct_append links (end ++ ns)
    (link_distinct d.aa d.name stamp d.chain (chain_distinct r d.chain d.end m.ends_as))
    (distinct_append end ns (end_distinct d stamp d.end)
    (ns_distinct stamp d.ns (authority_distinct r d.ns m.authority))
    (λ o h k. end_not_two d stamp d.end o h (ns_is stamp d.ns o k).1))
    (λ o h k. elim (has_either end ns o k) [
      | inl a ↦ end_apart r d stamp d.end o m.ends_as (link_is d.aa d.name stamp d.chain o h) a
      | inr b ↦ (link_is d.aa d.name stamp d.chain o h).rank (ns_is stamp d.ns o b).1
    ])
