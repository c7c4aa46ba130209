-- What a reply that was read means is lawful.
-- Serves `digest`, `digest_along_walk`, `digest_without_walk`, `end_of`, the laws
-- `digest_or_fault`, `one_digest`, and fleet_site, fleet_world.
use Rattle.std.proofs.Common.{◌≡◌, ℕ, ◌≤◌, inl, inr, Bool, true, false, IsTrue, ◌↔◌, ◌⊎◌, min, List, [], ◌∷◌, length, ap, sym, ◌∙◌, refl, arith, subst, Some, None}
use mathlib.Core.Bool.{false≢true}
use Rattle.std.specs.List.{AllByRecursion}
use Rattle.std.specs.declared.cmp.Ordering.TheVariants.{Less, Greater}
use Rattle.std.specs.Ordering.{nat_cmp, ordering_reverse}
use Rattle.std.specs.Cmp.Lexicographic.{slice_cmp}
use Rattle.std.proofs.lemmas.Cmp.{nat_list_cmp_total}
use Rattle.fleet_name.specs.Name.{wire, labels_of, IsName}
use Rattle.fleet_wire.specs.Record.{RecordData, IsPlainRecord}
use Rattle.fleet_wire.specs.Message.{MessageData, IsRead}
use Rattle.fleet_wire.specs.declared.rcode.TheConstants.{NO_ERROR, NAME_ERROR}
use Rattle.fleet_observe.specs.Members.{Has, IsAscending}
use Rattle.fleet_observe.specs.RrSet.{RrSetData, IsRrSet, InSet, IsOnly, read_ttl}
use Rattle.fleet_observe.specs.Walk.{IsPath, AreLinks, last, Ends, EndsFound}
use Rattle.fleet_observe.specs.steps.Following.{ArePlainRecords}
use Rattle.fleet_observe.specs.Soa.{SoaData}
use Rattle.fleet_observe.specs.Digest.{EndData, Records, NoData, NxDomain, Code, Truncated, DigestData, target_of, denied_by, IsLawfulSet, IsLawfulLink, IsLawfulSoa, IsLawfulEnd, IsLawful}
use Rattle.fleet_observe.specs.DigestOf.{IsSoaOf, WalkEndsAs, IsEnd, EndsAs, IsDigest, IsAuthority, IsServed, AsksWalk}
use Rattle.fleet_observe.proofs.Sets.{read_bound}
use Rattle.fleet_observe.proofs.Soas.{first_member}
use Rattle.fleet_name.proofs.Lemmas.{labels_of-wire}
use Rattle.fleet_observe.proofs.Walks.{links_length}
use Rattle.fleet_wire.specs.declared.rtype.TheConstants.{CNAME, NS}
use Rattle.fleet_observe.specs.declared.bounds.TheConstants.{LONGEST_DENIAL, MOST_LINKS}

pub all_plain : (s : List RecordData) → AllByRecursion IsPlainRecord s → ArePlainRecords s
all_plain [] all r h = absurd h
all_plain (x ∷ s) all r (inl e) = subst (λ (y : RecordData). IsPlainRecord y) e all.0
all_plain (x ∷ s) all r (inr h) = all_plain s all.1 r h

pub not_below_itself : (d : List ℕ) → ¬ (slice_cmp nat_cmp d d ≡ Less)
not_below_itself d e = apart (sym e ∙ (nat_list_cmp_total.antisymm d d ∙ ap ordering_reverse e))
  where
    apart : ¬ (Less ≡ Greater)
    apart k = cc

-- octets in ascending order that are all the same are one alone
alone_of : (ds : List (List ℕ)) → IsAscending ds → ¬ (ds ≡ [])
    → ((d e : List ℕ) → Has ds d → Has ds e → d ≡ e) → (d : List ℕ) × (ds ≡ d ∷ [])
alone_of [] up some same = absurd (some refl)
alone_of (d ∷ []) up some same = (d, refl)
alone_of (d ∷ e ∷ ds) up some same =
    let k : d ≡ e = same d e (inl refl) (inr (inl refl)) in
    let below : slice_cmp nat_cmp d e ≡ Less = up.0 e (inl refl) in
    absurd (not_below_itself d (subst (λ (x : List ℕ). slice_cmp nat_cmp d x ≡ Less) (sym k) below))

some_of : (ds : List (List ℕ)) (d : List ℕ) → Has ds d → ¬ (ds ≡ [])
some_of ds d h e = let nowhere = rw e at h in nowhere

pub set_some : (s : List RecordData) (n : List (List ℕ)) (t : ℕ) (x : RrSetData) → IsRrSet s n t x
    → (d : List ℕ) × InSet s n t d
set_some s n t x is = (
  is.ttl.carrier.rdata,
  record {
    carrier = is.ttl.carrier;
    member = is.ttl.member;
    is_of_rrset = is.ttl.is_of_rrset;
    rdata = refl;
  },
)

-- an RRset of plain records
pub set_lawful : (s : List RecordData) (n : List (List ℕ)) (t : ℕ) (x : RrSetData)
    → ArePlainRecords s → IsRrSet s n t x → (t ≡ CNAME → (d e : List ℕ) → InSet s n t d
    → InSet s n t e → d ≡ e) → IsLawfulSet x
set_lawful s n t x plain is single =
    let one = set_some s n t x is in let carrier = is.ttl.carrier in
    let named : IsName n = subst IsName is.ttl.is_of_rrset.owner (plain carrier is.ttl.member).name in
    let some : ¬ (x.rdatas ≡ []) = some_of x.rdatas one.0 (is.whole one.0 one.1) in
    record {
      name = rw is.name named;
      typed = rw is.rtype is.ttl.is_of_rrset.typed;
      ttl = rw is.ttl.is (read_bound carrier.ttl);
      some = some;
      ascending = is.ascending;
      plain = λ d h.
          let m = is.of_section d h in
          rw (is.rtype, ← m.rdata, ← m.is_of_rrset.rtype) ((plain m.carrier m.member).rdata);
      alone = λ alias. ap length (alone_of x.rdatas is.ascending some
          (λ d e h k. single (sym is.rtype ∙ alias) d e (is.of_section d h) (is.of_section e k))).1;
    }

only_same : (s : List RecordData) (n : List (List ℕ)) (t : ℕ) (m : List ℕ) → IsOnly s n t m
    → (d e : List ℕ) → InSet s n t d → InSet s n t e → d ≡ e
only_same s n t m only d e h k = sym (only.only d h) ∙ only.only e k

pub links_lawful : (s : List RecordData) (t : ℕ) (n : List (List ℕ)) (later : List (List (List ℕ)))
    (chain : List RrSetData) → ArePlainRecords s → IsPath s t n later → AreLinks s n later chain
    → (x : RrSetData) → Has chain x → IsLawfulLink x
links_lawful s t n [] [] plain p l x h = absurd h
links_lawful s t n [] (y ∷ chain) plain p l x h = absurd l
links_lawful s t n (m ∷ later) [] plain p l x h = absurd l
links_lawful s t n (m ∷ later) (y ∷ chain) plain p l x (inl e) =
    subst IsLawfulLink e (record {
      set = set_lawful s n CNAME y plain l.0
          (λ _. only_same s n CNAME (wire m) p.0.target);
      alias = l.0.rtype;
    })
links_lawful s t n (m ∷ later) (y ∷ chain) plain p l x (inr h) = links_lawful s t m later chain
    plain p.1 l.1 x h

target_is : (s : List RecordData) (n m : List (List ℕ)) (ds : List (List ℕ))
    → IsOnly s n CNAME (wire m) → IsName m → ¬ (ds ≡ [])
    → ((d : List ℕ) → Has ds d → InSet s n CNAME d) → target_of n ds ≡ m
target_is s n m [] only named some of = absurd (some refl)
target_is s n m (d ∷ ds) only named some of = ap labels_of (sym (only.only d (of d (inl refl))))
    ∙ labels_of-wire m named.labels

-- the name that a chain denies is the one where the walk ends
pub denied_is : (s : List RecordData) (t : ℕ) (n : List (List ℕ)) (later : List (List (List ℕ)))
    (chain : List RrSetData) → IsPath s t n later → AreLinks s n later chain
    → denied_by n chain ≡ last n later
denied_is s t n [] [] p l = refl
denied_is s t n [] (y ∷ chain) p l = absurd l
denied_is s t n (m ∷ later) [] p l = absurd l
denied_is s t n (m ∷ later) (y ∷ chain) p l =
    let one = set_some s n CNAME y l.0 in
    let k = target_is s n m y.rdatas p.0.target p.0.named
    (some_of y.rdatas one.0 (l.0.whole one.0 one.1)) l.0.of_section in
    ap (λ (x : List (List ℕ)). denied_by x chain) k ∙ denied_is s t m later chain p.1 l.1

pub last_named : (s : List RecordData) (t : ℕ) (n : List (List ℕ)) (later : List (List (List ℕ)))
    → IsName n → IsPath s t n later → IsName (last n later)
last_named s t n [] named p = named
last_named s t n (m ∷ later) named p = last_named s t m later p.0.named p.1

three_hours : (a b c : ℕ) → min (min a b) LONGEST_DENIAL ≤ LONGEST_DENIAL
three_hours a b c = omega arith

pub soa_lawful : (s : List RecordData) (n : List (List ℕ)) (x : SoaData) → ArePlainRecords s
    → IsSoaOf s n x → IsLawfulSoa n x
soa_lawful s n x plain is =
    let r = is.carrier in let p = plain r (first_member s r is.counts.first) in
    record {
      owner = rw is.owner p.name;
      under = rw is.owner is.counts.under;
      ttl = rw is.ttl (three_hours (read_ttl r.ttl) _ 0);
      plain = rw is.rdata (rw is.counts.first.soa.rtype at p.rdata);
    }

found_single : (s : List RecordData) (t : ℕ) (n : List (List ℕ)) (d : List ℕ) → InSet s n t d
    → Ends s t n → EndsFound s t n
found_single s t n d h (inl found) = found
found_single s t n d h (inr bare) = absurd (bare.without d h)

end_lawful : (r : MessageData) (n : List (List ℕ)) (e : EndData) → ArePlainRecords r.answer
    → ArePlainRecords r.authority → Ends r.answer r.question.rtype n → IsEnd r n e → IsLawfulEnd n e
end_lawful r n (Records x) plain plain' ends is =
    let one = set_some r.answer n r.question.rtype x is in
    set_lawful r.answer n r.question.rtype x plain is (found_single r.answer r.question.rtype n
    one.0 one.1 ends).single
end_lawful r n (NoData None) plain plain' ends is = tt
end_lawful r n (NoData (Some x)) plain plain' ends is = soa_lawful r.authority n x plain' is.2
end_lawful r n (NxDomain None) plain plain' ends is = tt
end_lawful r n (NxDomain (Some x)) plain plain' ends is = soa_lawful r.authority n x plain' is.2
end_lawful r n (Code c) plain plain' ends is = absurd is
end_lawful r n Truncated plain plain' ends is = absurd is

-- chain and end
record IsLawfulWalk (n : List (List ℕ)) (chain : List RrSetData) (e : EndData) : Type 0 where
  chain_is : (x : RrSetData) → Has chain x → IsLawfulLink x
  short : length chain ≤ MOST_LINKS
  end_is : IsLawfulEnd (denied_by n chain) e

walk_lawful : (r : MessageData) (chain : List RrSetData) (e : EndData) → IsRead r
    → WalkEndsAs r chain e → IsLawfulWalk r.question.name chain e
walk_lawful r chain e read t =
    let plain = all_plain r.answer read.answer in let path = t.walk.path in
    let denied = denied_is r.answer r.question.rtype r.question.name t.later chain path t.links in
    record {
      chain_is = links_lawful r.answer r.question.rtype r.question.name t.later chain plain path
          t.links;
      short = rw (← links_length r.answer r.question.name t.later chain t.links) t.walk.short;
      end_is = rw denied (end_lawful r (last r.question.name t.later) e plain
          (all_plain r.authority read.authority) t.walk.ends t.end_is);
    }

none_in : (chain : List RrSetData) → chain ≡ [] → (x : RrSetData) → Has chain x → IsLawfulLink x
none_in chain e x h = let nowhere = rw e at h in absurd nowhere

ends_lawful : (r : MessageData) (chain : List RrSetData) (e : EndData) → IsRead r
    → EndsAs r chain e → IsLawfulWalk r.question.name chain e
ends_lawful r chain (Records x) read t = walk_lawful r chain (Records x) read t
ends_lawful r chain (NoData x) read t = walk_lawful r chain (NoData x) read t
ends_lawful r chain (NxDomain x) read t = walk_lawful r chain (NxDomain x) read t
ends_lawful r chain (Code c) read t = record {
  chain_is = none_in chain t.4;
  short = rw t.4 (omega arith);
  end_is = rw t.3 read.header.rcode;
}
ends_lawful r chain Truncated read t = record {
  chain_is = none_in chain t.1;
  short = rw t.1 (omega arith);
  end_is = tt;
}

apart : ¬ (◌≡◌ {A = ℕ} NS CNAME)
apart e = omega (arith, e)

ns_lawful : (r : MessageData) (sets : List RrSetData) → IsRead r → IsAuthority r sets
    → (x : RrSetData) → Has sets x → IsLawfulSet x
ns_lawful r sets read (inl a) x h = set_lawful r.authority x.name 2 x
    (all_plain r.authority read.authority) (a.1.each x h) (λ e. absurd (apart e))
ns_lawful r sets read (inr a) x h = let nowhere = rw a.1 at h in absurd nowhere

pub ends_by_walk : (r : MessageData) (chain : List RrSetData) (e : EndData) → WalkEndsAs r chain e
    → EndsAs r chain e
ends_by_walk r chain (Records x) t = t
ends_by_walk r chain (NoData x) t = t
ends_by_walk r chain (NxDomain x) t = t
ends_by_walk r chain (Code x) t = absurd t.end_is
ends_by_walk r chain Truncated t = absurd t.end_is

-- what a reply means that asks for no walk
pub meaning_without_walk : (r : MessageData) (name : List (List ℕ)) (rtype : ℕ) (aa : Bool)
    (chain : List RrSetData) (e : EndData) (ns : List RrSetData) → IsServed r
    → name ≡ r.question.name → rtype ≡ r.question.rtype → aa ≡ r.header.aa
    → chain ≡ [] → EndsAs r [] e → ¬ AsksWalk r → ns ≡ []
    → IsDigest r (record {
      name = name;
      rtype = rtype;
      aa = aa;
      chain = chain;
      end = e;
      ns = ns;
    })
meaning_without_walk r name rtype aa chain e ns served one two three none ends_as idle bare = record {
  served = served;
  name = one;
  rtype = two;
  aa = three;
  ends_as = rw none ends_as;
  authority = inr ((λ h. idle (record { whole = h.whole; code = inl h.code })), bare);
}

-- what a reply means whose walk was followed
pub meaning_along_walk : (r : MessageData) (name : List (List ℕ)) (rtype : ℕ) (aa : Bool)
    (chain : List RrSetData) (e : EndData) (ns : List RrSetData) → IsServed r
    → name ≡ r.question.name → rtype ≡ r.question.rtype → aa ≡ r.header.aa
    → WalkEndsAs r chain e → IsAuthority r ns
    → IsDigest r (record {
      name = name;
      rtype = rtype;
      aa = aa;
      chain = chain;
      end = e;
      ns = ns;
    })
meaning_along_walk r name rtype aa chain e ns served one two three ends_as authority = record {
  served = served;
  name = one;
  rtype = two;
  aa = three;
  ends_as = ends_by_walk r chain e ends_as;
  authority = authority;
}

pub lawful_meaning : (r : MessageData) (d : DigestData) → IsRead r → IsDigest r d → IsLawful d
lawful_meaning r d read is =
    let w = ends_lawful r d.chain d.end read is.ends_as in
    record {
      name = rw is.name read.question.named;
      typed = rw is.rtype is.served.typed;
      chain = w.chain_is;
      short = w.short;
      end_is = rw is.name w.end_is;
      ns = ns_lawful r d.ns read is.authority;
    }

-- a reply that was cut off, or with another code, asks for no walk
pub no_walk_cut : (r : MessageData) → r.header.tc ≡ true → ¬ AsksWalk r
no_walk_cut r cut asks = false≢true (sym asks.whole ∙ cut)

pub not_so : (b : Bool) (P : Type 0) → (IsTrue b ↔ P) → b ≡ false → ¬ P
not_so b P is none p = false≢true (sym none ∙ is.1 p)

pub no_walk_coded : (r : MessageData)
    → ¬ ((r.header.rcode ≡ NO_ERROR) ⊎ (r.header.rcode ≡ NAME_ERROR))
    → ¬ AsksWalk r
no_walk_coded r none asks = none asks.code
