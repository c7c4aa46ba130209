-- Which datagrams may still be replied to, call by call of a port.
-- Serves the laws `none_forgotten`, `own_replies`, `questions_answered`.
use Rattle.std.proofs.Common.{◌≡◌, ◌≢◌, ◌⊎◌, inl, inr, ℕ, zero, suc, ◌+◌, ◌<◌, ◌≤◌, List, [], ◌∷◌, ◌++◌, Some, None, length, refl, sym, ap, ◌∙◌, subst, arith}
use Rattle.std.proofs.lemmas.Option.{same_Some}
use Rattle.fleet_name.specs.Places.{Has}
use Rattle.fleet_name.proofs.Lemmas.{has_left, has_right, has_either}
use Rattle.fleet_pending.specs.declared.addr.Addr.{Addr}
use Rattle.fleet_site.specs.ConfigData.{ConfigData}
use Rattle.fleet_site.specs.PacketData.{PacketData}
use Rattle.fleet_site.specs.server.PortRecord.{PortCall, Received}
use Rattle.fleet_site.specs.server.Sending.{IsSend}
use Rattle.fleet_site.specs.server.Replies.{IsClient, ReceivedAt, SentAt, RepliesTo, RepliesOnce}

-- a datagram that may still be replied to, with the place of the call that received it
pub record Debt : Type 0 where
  pub place : ℕ
  pub from : Addr
  pub octets : List ℕ

abbrev pub debt : ℕ → Addr → List ℕ → Debt
debt place from octets = record { place = place; from = from; octets = octets }

-- what one call, the k-th, makes of what may be replied to: a datagram joins, a reply to one takes
-- it away, and what is sent to no client, or received and not replied to, changes nothing
pub data Pays (c : ConfigData) (k : ℕ) (call : PortCall) (old new : List Debt) : Type 0 where
  joins : (room : ℕ) (from : Addr) (octets : List ℕ) (before behind : List Debt)
      → call ≡ Received room from octets → old ≡ before ++ behind
      → new ≡ before ++ debt k from octets ∷ behind → Pays c k call old new
  takes_away : (p : PacketData) (d : Debt) (before behind : List Debt) → IsSend p call
      → old ≡ before ++ d ∷ behind → new ≡ before ++ behind → d.from ≡ p.to
      → RepliesTo d.octets p.octets → Pays c k call old new
  stays : ((p : PacketData) → IsSend p call → ¬ IsClient c p.to) → new ≡ old
      → Pays c k call old new

-- and many calls
abbrev pub PaysAll : ConfigData → ℕ → List PortCall → List Debt → List Debt → Type 0
PaysAll c k [] old new = new ≡ old
PaysAll c k (call ∷ calls) old new =
    (mid : List Debt) × Pays c k call old mid × PaysAll c (suc k) calls mid new

pub pays_both : (c : ConfigData) (k : ℕ) (xs ys : List PortCall) (a b d : List Debt)
    → PaysAll c k xs a b → PaysAll c (k + length xs) ys b d → PaysAll c k (xs ++ ys) a d
pays_both c k [] ys a b d h i =
    let e : k + 0 ≡ k = omega arith in
    subst (λ (x : List Debt). PaysAll c k ys x d) h
    (subst (λ (j : ℕ). PaysAll c j ys b d) e i)
pays_both c k (x ∷ xs) ys a b d h i =
    let e : k + suc (length xs) ≡ suc k + length xs = omega arith in
    (h.0, h.1, pays_both c (suc k) xs ys h.0 b d h.2 (subst (λ (j : ℕ). PaysAll c j ys b d) e i))

-- whether numbers are the same, as a count
abbrev pub one : ℕ → ℕ → ℕ
one zero zero = 1
one zero (suc t) = 0
one (suc n) zero = 0
one (suc n) (suc t) = one n t

one_same : (n : ℕ) → one n n ≡ 1
one_same zero = refl
one_same (suc n) = one_same n

one_cases : (n t : ℕ) → (one n t ≡ 0) ⊎ ((one n t ≡ 1) × (n ≡ t))
one_cases zero zero = inr (refl, refl)
one_cases zero (suc t) = inl refl
one_cases (suc n) zero = inl refl
one_cases (suc n) (suc t) =
    elim (one_cases n t) [ inl e ↦ inl e | inr p ↦ inr (p.0, ap (λ k. suc k) p.1) ]

-- how many have this place
abbrev pub count : ℕ → List Debt → ℕ
count t [] = 0
count t (d ∷ ds) = one d.place t + count t ds

count_both : (t : ℕ) (xs ys : List Debt) → count t (xs ++ ys) ≡ count t xs + count t ys
count_both t [] ys = omega (arith)
count_both t (x ∷ xs) ys = omega (arith, count_both t xs ys)

counted : (ds : List Debt) (d : Debt) → Has ds d → 1 ≤ count d.place ds
counted [] d h = absurd h
counted (x ∷ ds) d (inl same) =
    let p : one x.place d.place ≡ 1 =
    subst (λ (y : Debt). one x.place y.place ≡ 1) same (one_same x.place) in
    let q : count d.place (x ∷ ds) ≡ one x.place d.place + count d.place ds = refl in
    omega (arith, p, q)
counted (x ∷ ds) d (inr rest) =
    let q : count d.place (x ∷ ds) ≡ one x.place d.place + count d.place ds = refl in
    omega (arith, counted ds d rest, q)

-- some of what may be replied to, in any order
pub record Within (new old : List Debt) : Type 0 where
  pub counts : (t : ℕ) → count t new ≤ count t old
  pub members : (d : Debt) → Has new d → Has old d

pub within_same : (ds : List Debt) → Within ds ds
within_same ds = record { counts = λ t. omega arith; members = λ d h. h }

within_both : (a b d : List Debt) → Within a b → Within b d → Within a d
within_both a b d v w = record {
  counts = λ t. omega (arith, v.counts t, w.counts t);
  members = λ x h. w.members x (v.members x h);
}

-- many calls, before each of which some of what may be replied to is forgotten
abbrev pub PaysOver : ConfigData → ℕ → List PortCall → List Debt → Type 0
PaysOver c k [] old = Unit {0}
PaysOver c k (call ∷ calls) old = (start : List Debt) × (mid : List Debt) × Within start old
    × Pays c k call start mid × PaysOver c (suc k) calls mid

all_over : (c : ConfigData) (k : ℕ) (calls : List PortCall) (old new : List Debt)
    → PaysAll c k calls old new → PaysOver c k calls old
all_over c k [] old new h = tt
all_over c k (x ∷ xs) old new h =
    (old, h.0, within_same old, h.1, all_over c (suc k) xs h.0 new h.2)

-- what can be paid out of some can be paid out of all
pub over_within : (c : ConfigData) (k : ℕ) (calls : List PortCall) (new old : List Debt)
    → Within new old → PaysOver c k calls new → PaysOver c k calls old
over_within c k [] new old w h = tt
over_within c k (x ∷ xs) new old w h = (h.0, h.1, within_both h.0 new old h.2 w, h.3, h.4)

-- each place once, and all of them before the k-th call
pub record AreApart (k : ℕ) (ds : List Debt) : Type 0 where
  pub once : (t : ℕ) → count t ds ≤ 1
  pub before : (d : Debt) → Has ds d → d.place < k

uncounted : (t : ℕ) (ds : List Debt) → ((d : Debt) → Has ds d → d.place < t) → count t ds ≡ 0
uncounted t [] h = refl
uncounted t (d ∷ ds) h =
    let r = uncounted t ds (λ x m. h x (inr m)) in
    let l : d.place < t = h d (inl refl) in
    elim (one_cases d.place t) [
      | inl e ↦ omega (arith, e, r)
      | inr p ↦ absurd (omega (arith, p.1, l))
    ]

pub apart_none : (k : ℕ) → AreApart k []
apart_none k = record { once = λ t. omega arith; before = λ d h. absurd h }

-- a member is the one in the middle, or one of the others
has_middle : (before behind : List Debt) (d x : Debt) → Has (before ++ d ∷ behind) x
    → (d ≡ x) ⊎ Has (before ++ behind) x
has_middle before behind d x h = elim (has_either before (d ∷ behind) x h) [
  | inl l ↦ inr (has_left before behind x l)
  | inr r ↦ elim r [ inl e ↦ inl e | inr m ↦ inr (has_right before behind x m) ]
]

-- one comes to stand before others
pub within_moved : (a b w : List Debt) (e : Debt) → Within ((a ++ e ∷ b) ++ w) ((a ++ b) ++ e ∷ w)
within_moved a b w e = record {
  counts = λ t. omega (
    arith,
    count_both t (a ++ e ∷ b) w,
    count_both t a (e ∷ b),
    count_both t (a ++ b) (e ∷ w),
    count_both t a b,
  );
  members = λ x h. elim (has_either (a ++ e ∷ b) w x h) [
    | inl l ↦ elim (has_middle a b e x l) [
      | inl same ↦ has_right (a ++ b) (e ∷ w) x (inl same)
      | inr m ↦ has_left (a ++ b) (e ∷ w) x m
    ]
    | inr r ↦ has_right (a ++ b) (e ∷ w) x (inr r)
  ];
}

-- one is forgotten
pub within_less : (a w : List Debt) (e : Debt) → Within (a ++ w) (a ++ e ∷ w)
within_less a w e = record {
  counts = λ t. omega (arith, count_both t a w, count_both t a (e ∷ w));
  members = λ x h. elim (has_either a w x h) [
    | inl l ↦ has_left a (e ∷ w) x l
    | inr r ↦ has_right a (e ∷ w) x (inr r)
  ];
}

apart_more : (k : ℕ) (from : Addr) (octets : List ℕ) (before behind : List Debt)
    → AreApart k (before ++ behind) → AreApart (suc k) (before ++ debt k from octets ∷ behind)
apart_more k from octets before behind a = record {
  once = λ t.
      let o = a.once t in
      let p = count_both t before (debt k from octets ∷ behind) in
      let q = count_both t before behind in
      elim (one_cases k t) [
        | inl e ↦ omega (arith, e, o, p, q)
        | inr y ↦
            let z = subst (λ (x : ℕ). count x (before ++ behind) ≡ 0) y.1
            (uncounted k (before ++ behind) a.before) in
            omega (arith, y.0, z, p, q)
      ];
  before = λ d h. elim (has_middle before behind (debt k from octets) d h) [
    | inl e ↦ let q : k ≡ d.place = ap (λ (x : Debt). x.place) e in omega (arith, q)
    | inr m ↦ omega (arith, a.before d m)
  ];
}

apart_later : (k : ℕ) (ds : List Debt) → AreApart k ds → AreApart (suc k) ds
apart_later k ds a = record { once = a.once; before = λ d h. omega (arith, a.before d h) }

apart_less : (k : ℕ) (before behind : List Debt) (d : Debt) → AreApart k (before ++ d ∷ behind)
    → AreApart (suc k) (before ++ behind)
apart_less k before behind d a = record {
  once = λ t.
      let p = count_both t before (d ∷ behind) in
      let q = count_both t before behind in
      omega (arith, p, q, a.once t);
  before = λ x h.
      let m : Has (before ++ d ∷ behind) x =
      elim (has_either before behind x h) [
        | inl l ↦ has_left before (d ∷ behind) x l
        | inr r ↦ has_right before (d ∷ behind) x (inr r)
      ] in
      omega (arith, a.before x m);
}

apart_within : (k : ℕ) (new old : List Debt) → Within new old → AreApart k old → AreApart k new
apart_within k new old w a = record {
  once = λ t. omega (arith, w.counts t, a.once t);
  before = λ d h. a.before d (w.members d h);
}

-- nobody else has the place of one that was taken away
taken : (k : ℕ) (before behind : List Debt) (d x : Debt) → AreApart k (before ++ d ∷ behind)
    → Has (before ++ behind) x → x.place ≢ d.place
taken k before behind d x a h e =
    let p = count_both x.place before (d ∷ behind) in
    let q = count_both x.place before behind in
    let r = counted (before ++ behind) x h in
    let s : one d.place x.place ≡ 1 = subst (λ (n : ℕ). one d.place n ≡ 1) (sym e)
    (one_same d.place) in
    omega (arith, p, q, r, s, a.once x.place)

-- the datagram is one that could be replied to at first, or came in since
abbrev Came : ℕ → List Debt → List PortCall → ℕ → Addr → List ℕ → Type 0
Came k ds calls t from octets =
    Has ds (debt t from octets) ⊎ ((i : ℕ) × (t ≡ k + i) × ReceivedAt calls i from octets)

-- each packet to a client replies to such a datagram, and no two to the same one
record Matched (c : ConfigData) (k : ℕ) (ds : List Debt) (calls : List PortCall) : Type 0 where
  asked : ℕ → ℕ
  replies : (j : ℕ) (p : PacketData) → SentAt calls j p → IsClient c p.to
      → (asked j < k + j) × ((octets : List ℕ) × Came k ds calls (asked j) p.to octets
      × RepliesTo octets p.octets)
  once : (i j : ℕ) (p r : PacketData) → SentAt calls i p → SentAt calls j r → IsClient c p.to
      → IsClient c r.to → asked i ≡ asked j → i ≡ j

-- the first call's, and those of the others
abbrev asked_of : ℕ → (ℕ → ℕ) → ℕ → ℕ
asked_of first others zero = first
asked_of first others (suc j) = others j

-- a call sends one packet at most
pub sent_same : (call : PortCall) (p r : PacketData) → IsSend p call → IsSend r call → p ≡ r
sent_same call p r (inl e) (inl f) = cc
sent_same call p r (inl e) (inr f) = cc
sent_same call p r (inr e) (inl f) = cc
sent_same call p r (inr e) (inr f) = cc

-- what the first call sent
pub first_sent : (call : PortCall) (calls : List PortCall) (p : PacketData)
    → SentAt (call ∷ calls) 0 p → IsSend p call
first_sent call calls p s = subst (λ (x : PortCall). IsSend p x) (sym (same_Some call s.0 s.1)) s.2

pub no_send : (call : PortCall) (room : ℕ) (from : Addr) (octets : List ℕ) (p : PacketData)
    → call ≡ Received room from octets → ¬ IsSend p call
no_send call room from octets p e (inl f) = cc
no_send call room from octets p e (inr f) = cc

came_later : (k : ℕ) (ds : List Debt) (x : PortCall) (xs : List PortCall) (t : ℕ) (from : Addr)
    (octets : List ℕ) → (i : ℕ) × (t ≡ suc k + i) × ReceivedAt xs i from octets
    → Came k ds (x ∷ xs) t from octets
came_later k ds x xs t from octets h =
    inr (suc h.0, (let e : t ≡ suc k + h.0 = h.1 in omega (arith, e)), h.2)

-- a datagram that joined is the one that the first call received
came_joined : (k : ℕ) (mid ds before behind : List Debt) (x : PortCall) (xs : List PortCall)
    (room : ℕ) (from to : Addr) (octets asked : List ℕ) (t : ℕ) → x ≡ Received room from octets
    → ds ≡ before ++ behind → mid ≡ before ++ debt k from octets ∷ behind
    → Came (suc k) mid xs t to asked → Came k ds (x ∷ xs) t to asked
came_joined k mid ds before behind x xs room from to octets asked t e o n (inr h) =
    came_later k ds x xs t to asked h
came_joined k mid ds before behind x xs room from to octets asked t e o n (inl h) =
    elim (has_middle before behind (debt k from octets) (debt t to asked)
    (subst (λ (ys : List Debt). Has ys (debt t to asked)) n h)) [
      | inl same ↦
          let p : k ≡ t = ap (λ (d : Debt). d.place) same in
          let q : from ≡ to = ap (λ (d : Debt). d.from) same in
          let r : octets ≡ asked = ap (λ (d : Debt). d.octets) same in
          let u : x ≡ Received room to asked = e ∙ ap (λ (a : Addr). Received room a octets) q
          ∙ ap (λ (o : List ℕ). Received room to o) r in
          inr (0, (omega (arith, p)), (room, ap (λ (y : PortCall). Some y) u))
      | inr rest ↦ inl (subst (λ (ys : List Debt). Has ys (debt t to asked)) (sym o) rest)
    ]

came_stayed : (k : ℕ) (mid ds : List Debt) (x : PortCall) (xs : List PortCall) (to : Addr)
    (asked : List ℕ) (t : ℕ) → ((d : Debt) → Has mid d → Has ds d)
    → Came (suc k) mid xs t to asked → Came k ds (x ∷ xs) t to asked
came_stayed k mid ds x xs to asked t within (inr h) = came_later k ds x xs t to asked h
came_stayed k mid ds x xs to asked t within (inl h) = inl (within (debt t to asked) h)

matched_none : (c : ConfigData) (k : ℕ) (ds : List Debt) → Matched c k ds []
matched_none c k ds = record {
  asked = λ j. j;
  replies = λ j p s i. absurd (let q : None ≡ Some s.0 = s.1 in cc);
  once = λ i j p r s t u v e. absurd (let q : None ≡ Some s.0 = s.1 in cc);
}

-- where the first call sent nothing to a client
matched_quiet : (c : ConfigData) (k : ℕ) (mid ds : List Debt) (x : PortCall) (xs : List PortCall)
    → ((p : PacketData) → IsSend p x → ¬ IsClient c p.to)
    → ((to : Addr) (asked : List ℕ) (t : ℕ) → Came (suc k) mid xs t to asked
    → Came k ds (x ∷ xs) t to asked)
    → Matched c (suc k) mid xs → Matched c k ds (x ∷ xs)
matched_quiet c k mid ds x xs none back m =
    record { asked = asked_of 0 m.asked; replies = replies; once = once }
  where
    replies : (j : ℕ) (p : PacketData) → SentAt (x ∷ xs) j p → IsClient c p.to
        → (asked_of 0 m.asked j < k + j) × ((octets : List ℕ)
        × Came k ds (x ∷ xs) (asked_of 0 m.asked j) p.to octets × RepliesTo octets p.octets)
    replies zero p s i = absurd (none p (first_sent x xs p s) i)
    replies (suc j) p s i =
        let r = m.replies j p s i in
        ((omega (arith, r.0)), (r.1.0, back p.to r.1.0 (m.asked j) r.1.1, r.1.2))

    once : (i j : ℕ) (p r : PacketData) → SentAt (x ∷ xs) i p → SentAt (x ∷ xs) j r
        → IsClient c p.to → IsClient c r.to → asked_of 0 m.asked i ≡ asked_of 0 m.asked j → i ≡ j
    once zero j p r s t u v e = absurd (none p (first_sent x xs p s) u)
    once (suc i) zero p r s t u v e = absurd (none r (first_sent x xs r t) v)
    once (suc i) (suc j) p r s t u v e = ap (λ n. suc n) (m.once i j p r s t u v e)

-- where it took a datagram away
matched_paid : (c : ConfigData) (k : ℕ) (mid ds : List Debt) (x : PortCall) (xs : List PortCall)
    (q : PacketData) (d : Debt) (before behind : List Debt) → AreApart k ds → IsSend q x
    → ds ≡ before ++ d ∷ behind → mid ≡ before ++ behind → d.from ≡ q.to
    → RepliesTo d.octets q.octets → Matched c (suc k) mid xs → Matched c k ds (x ∷ xs)
matched_paid c k mid ds x xs q d before behind a sent old new from fits m =
    record { asked = asked_of d.place m.asked; replies = replies; once = once }
  where
    there : Has ds d
    there = subst (λ (ys : List Debt). Has ys d) (sym old)
        (has_right before (d ∷ behind) d (inl refl))

    within : (y : Debt) → Has mid y → Has ds y
    within y h =
        subst (λ (ys : List Debt). Has ys y) (sym old)
        (elim (has_either before behind y (subst (λ (ys : List Debt). Has ys y) new h)) [
          | inl l ↦ has_left before (d ∷ behind) y l
          | inr r ↦ has_right before (d ∷ behind) y (inr r)
        ])

    other : (y : Debt) → Has mid y → y.place ≢ d.place
    other y h =
        taken k before behind d y (subst (λ (ys : List Debt). AreApart k ys) old a)
        (subst (λ (ys : List Debt). Has ys y) new h)

    replies : (j : ℕ) (p : PacketData) → SentAt (x ∷ xs) j p → IsClient c p.to
        → (asked_of d.place m.asked j < k + j) × ((octets : List ℕ)
        × Came k ds (x ∷ xs) (asked_of d.place m.asked j) p.to octets
        × RepliesTo octets p.octets)
    replies zero p s i =
        let e : q ≡ p = sent_same x q p sent (first_sent x xs p s) in
        let f : d.from ≡ p.to = from ∙ ap (λ (y : PacketData). y.to) e in (
          (omega (arith, a.before d there)),
          (
            d.octets,
            inl (subst (λ (y : Addr). Has ds (debt d.place y d.octets)) f there),
            subst (λ (y : PacketData). RepliesTo d.octets y.octets) e fits,
          ),
        )
    replies (suc j) p s i =
        let r = m.replies j p s i in (
          (omega (arith, r.0)),
          (r.1.0, came_stayed k mid ds x xs p.to r.1.0 (m.asked j) within r.1.1, r.1.2),
        )

    apart : (j : ℕ) (p : PacketData) → SentAt xs j p → IsClient c p.to → m.asked j ≢ d.place
    apart j p s i e = let r = m.replies j p s i in elim r.1.1 [
      | inl h ↦ other (debt (m.asked j) p.to r.1.0) h e
      | inr h ↦
          let u : m.asked j ≡ suc k + h.0 = h.1 in
          let l = a.before d there in omega (arith, u, e, l)
    ]

    once : (i j : ℕ) (p r : PacketData) → SentAt (x ∷ xs) i p → SentAt (x ∷ xs) j r
        → IsClient c p.to → IsClient c r.to
        → asked_of d.place m.asked i ≡ asked_of d.place m.asked j → i ≡ j
    once zero zero p r s t u v e = refl
    once zero (suc j) p r s t u v e = absurd (apart j r t v (sym e))
    once (suc i) zero p r s t u v e = absurd (apart i p s u e)
    once (suc i) (suc j) p r s t u v e = ap (λ n. suc n) (m.once i j p r s t u v e)

matched_within : (c : ConfigData) (k : ℕ) (new old : List Debt) (calls : List PortCall)
    → Within new old → Matched c k new calls → Matched c k old calls
matched_within c k new old calls w m = record {
  asked = m.asked;
  replies = λ j p s i.
      let r = m.replies j p s i in (r.0, (r.1.0, more (m.asked j) p.to r.1.0 r.1.1, r.1.2));
  once = m.once;
}
  where
    more : (t : ℕ) (from : Addr) (octets : List ℕ) → Came k new calls t from octets
        → Came k old calls t from octets
    more t from octets (inl h) = inl (w.members (debt t from octets) h)
    more t from octets (inr h) = inr h

matched_one : (c : ConfigData) (k : ℕ) (x : PortCall) (xs : List PortCall) (ds mid : List Debt)
    → AreApart k ds → (AreApart (suc k) mid → Matched c (suc k) mid xs) → Pays c k x ds mid
    → Matched c k ds (x ∷ xs)
matched_one c k x xs ds mid a rest (joins room from octets before behind e o n) =
    matched_quiet c k mid ds x xs
    (λ p s i. no_send x room from octets p e s)
    (λ to asked t y.
    came_joined k mid ds before behind x xs room from to octets asked t e o n y)
    (rest (subst (λ (ys : List Debt). AreApart (suc k) ys) (sym n)
    (apart_more k from octets before behind
    (subst (λ (ys : List Debt). AreApart k ys) o a))))
matched_one c k x xs ds mid a rest (takes_away p d before behind s o n f r) =
    matched_paid c k mid ds x xs p d before behind a s o n f r
    (rest (subst (λ (ys : List Debt). AreApart (suc k) ys) (sym n)
    (apart_less k before behind d (subst (λ (ys : List Debt). AreApart k ys) o a))))
matched_one c k x xs ds mid a rest (stays none n) =
    matched_quiet c k mid ds x xs none
    (λ to asked t y.
    came_stayed k mid ds x xs to asked t
    (λ d m. subst (λ (ys : List Debt). Has ys d) n m) y)
    (rest (subst (λ (ys : List Debt). AreApart (suc k) ys) (sym n) (apart_later k ds a)))

matched : (c : ConfigData) (k : ℕ) (calls : List PortCall) (ds : List Debt) → AreApart k ds
    → PaysOver c k calls ds → Matched c k ds calls
matched c k [] ds a h = matched_none c k ds
matched c k (x ∷ xs) ds a h =
    matched_within c k h.0 ds (x ∷ xs) h.2
    (matched_one c k x xs h.0 h.1 (apart_within k h.0 ds h.2 a)
    (λ b. matched c (suc k) xs h.1 b h.4) h.3)

-- so of all calls from where nothing could be replied to
pub replies_of : (c : ConfigData) (calls : List PortCall) → PaysOver c 0 calls []
    → RepliesOnce c calls
replies_of c calls h =
    let m = matched c 0 calls [] (apart_none 0) h in
    record {
      question_at = m.asked;
      replies = λ k p s i.
          let r = m.replies k p s i in
          ((omega (arith, r.0)), (r.1.0, there (m.asked k) p.to r.1.0 r.1.1, r.1.2));
      once = m.once;
    }
  where
    there : (t : ℕ) (from : Addr) (octets : List ℕ) → Came 0 [] calls t from octets
        → ReceivedAt calls t from octets
    there t from octets (inl h) = absurd h
    there t from octets (inr h) =
        let e : h.0 ≡ t = (let f : t ≡ 0 + h.0 = h.1 in omega (arith, f)) in
        subst (λ (i : ℕ). ReceivedAt calls i from octets) e h.2

pub replies_from : (c : ConfigData) (calls : List PortCall) (fs : List Debt)
    → PaysAll c 0 calls [] fs → RepliesOnce c calls
replies_from c calls fs h = replies_of c calls (all_over c 0 calls [] fs h)
