-- What a step of a site does to those who wait, and what it sends to clients.
-- Serves the laws `none_forgotten`, `own_replies`, `questions_answered`.
use Rattle.std.proofs.Common.{◌≡◌, inl, inr, ℕ, zero, suc, List, [], ◌∷◌, ◌++◌, true, Option, Some, None, Result, Ok, Err, map, slice_set, refl, sym, ap, ◌∙◌, subst, append_assoc}
use Rattle.std.specs.List.{flat_map, remove}
use Rattle.std.proofs.lemmas.List.{append-nil}
use Rattle.std.proofs.lemmas.List.Concat.{flat_map-append}
use Rattle.std.proofs.lemmas.Option.{same_Some}
use Rattle.fleet_name.specs.Places.{At, Has}
use Rattle.fleet_name.proofs.Lemmas.{has_either}
use Rattle.fleet_wire.specs.Message.{header_of, IsQuery}
use Rattle.fleet_observe.specs.Digest.{DigestData}
use Rattle.fleet_pending.specs.Waiter.{WaiterData}
use Rattle.fleet_pending.specs.PendingData.{EntryData, PendingData}
use Rattle.fleet_pending.specs.Asking.{Joins, waits_already, waits_too, no_place, no_memory_for_place, Opens, is_sent, no_room, no_memory_for_room, Asks, joins, opens, new_entry, with_next_upstream, Settles, Advances}
use Rattle.fleet_pending.specs.Calls.{open_waiters}
use Rattle.fleet_pending.specs.declared.answer.Asked.{Asked as Opened}
use Rattle.fleet_pending.specs.declared.answer.Asked.TheVariants.{Joined, Send}
use Rattle.fleet_pending.specs.declared.answer.PendingFault.{PendingFault}
use Rattle.fleet_pending.specs.declared.addr.Addr.{Addr}
use Rattle.fleet_site.specs.ConfigData.{ConfigData}
use Rattle.fleet_site.specs.PacketData.{PacketData}
use Rattle.fleet_site.specs.question.Decision.{IsAsking}
use Rattle.fleet_site.specs.server.Replies.{IsClient, RepliesTo}
use Rattle.fleet_site.specs.reply.Reply.{relay_to}
use Rattle.fleet_site.specs.Tick.{failure_to}
use Rattle.fleet_site.proofs.Echoes.{outline_replies}

-- a waiter, and the octets that it asked
pub record IsAsked (octets : List ℕ) (w : WaiterData) : Type 0 where
  pub asks : IsAsking octets
  pub id : w.id ≡ (header_of octets).id
  pub standard : (header_of octets).opcode ≡ 0
  pub rd : (header_of octets).rd ≡ true
  pub past : ℕ
  pub query : IsQuery octets (header_of octets) w.question past

-- none of them goes to a client
abbrev pub NoneToClients : ConfigData → List PacketData → Type 0
NoneToClients c ps = (p : PacketData) → Has ps p → ¬ IsClient c p.to

-- what is written for a waiter goes to it, and replies to what it asked
pub record IsReplyFor (f : WaiterData → PacketData) : Type 0 where
  pub to : (w : WaiterData) → (f w).to ≡ w.from
  pub replies : (w : WaiterData) (octets : List ℕ) → IsAsked octets w
      → RepliesTo octets (f w).octets

-- Of a step that has a datagram, or none: nobody is sent anything; or who sent the datagram gets a
-- reply at once, or joins those who wait; or some of these get a reply, and wait no more.
pub data Deed (c : ConfigData) (arrived : Option (Addr × List ℕ)) (old new : List WaiterData)
    (ps : List PacketData) : Type 0 where
  is_quiet : new ≡ old → NoneToClients c ps → Deed c arrived old new ps
  replies_at_once : (from : Addr) (octets : List ℕ) (p : PacketData) (others : List PacketData)
      → arrived ≡ Some (from, octets) → new ≡ old → ps ≡ p ∷ others → p.to ≡ from
      → RepliesTo octets p.octets → NoneToClients c others → Deed c arrived old new ps
  is_taken_in : (from : Addr) (octets : List ℕ) (w : WaiterData) (before behind : List WaiterData)
      → arrived ≡ Some (from, octets) → old ≡ before ++ behind → new ≡ before ++ w ∷ behind
      → w.from ≡ from → IsAsked octets w → NoneToClients c ps → Deed c arrived old new ps
  is_settled : (f : WaiterData → PacketData) (before ws behind : List WaiterData)
      (others : List PacketData) → IsReplyFor f → old ≡ before ++ (ws ++ behind)
      → new ≡ before ++ behind → ps ≡ map f ws ++ others → NoneToClients c others
      → Deed c arrived old new ps

pub none_at_all : (c : ConfigData) → NoneToClients c []
none_at_all c p h = absurd h

pub none_of_both : (c : ConfigData) (ps qs : List PacketData) → NoneToClients c ps
    → NoneToClients c qs → NoneToClients c (ps ++ qs)
none_of_both c ps qs a b p h = elim (has_either ps qs p h) [ inl l ↦ a p l | inr r ↦ b p r ]

-- what goes to an upstream goes to no client
pub to_upstream : (c : ConfigData) (i : ℕ) (p : PacketData) → At c.upstreams i p.to
    → NoneToClients c (p ∷ [])
to_upstream c i p t q (inl same) k =
    k.no_upstream (i, subst (λ (x : PacketData). At c.upstreams i x.to) same t)
to_upstream c i p t q (inr rest) k = absurd rest

-- with what goes to no client besides
pub deed_besides : (c : ConfigData) (arrived : Option (Addr × List ℕ)) (old new : List WaiterData)
    (ps qs : List PacketData) → NoneToClients c qs → Deed c arrived old new ps
    → Deed c arrived old new (ps ++ qs)
deed_besides c arrived old new ps qs n (is_quiet same none) =
    is_quiet same (none_of_both c ps qs none n)
deed_besides c arrived old new ps qs n (replies_at_once from octets p others a same e to fits none) =
    replies_at_once from octets p (others ++ qs) a same (ap (λ xs. xs ++ qs) e) to fits
    (none_of_both c others qs none n)
deed_besides c arrived old new ps qs n (is_taken_in from octets w before behind a o k to asked none) =
    is_taken_in from octets w before behind a o k to asked (none_of_both c ps qs none n)
deed_besides c arrived old new ps qs n (is_settled f before ws behind others r o k e none) =
    is_settled f before ws behind (others ++ qs) r o k
    (ap (λ xs. xs ++ qs) e ∙ append_assoc (map f ws) others qs) (none_of_both c others qs none n)

-- where the entry at an index is, among all who wait
record Split (es : List EntryData) (i : ℕ) (e : EntryData) : Type 0 where
  before : List WaiterData
  behind : List WaiterData
  whole : flat_map (λ x. x.waiters) es ≡ before ++ (e.waiters ++ behind)
  written : (f : EntryData)
      → flat_map (λ x. x.waiters) (slice_set es i f) ≡ before ++ (f.waiters ++ behind)
  removed : flat_map (λ x. x.waiters) (remove es i) ≡ before ++ behind

split_at : (es : List EntryData) (i : ℕ) (e : EntryData) → At es i e → Split es i e
split_at [] i e t = absurd (let q : None ≡ Some e = t in cc)
split_at (x ∷ es) zero e t = record {
  before = [];
  behind = flat_map (λ y. y.waiters) es;
  whole = ap (λ (y : EntryData). y.waiters ++ flat_map (λ z. z.waiters) es) (same_Some x e t);
  written = λ f. refl;
  removed = refl;
}
split_at (x ∷ es) (suc i) e t =
    let s = split_at es i e t in
    record {
      before = x.waiters ++ s.before;
      behind = s.behind;
      whole = ap (λ ws. x.waiters ++ ws) s.whole
          ∙ sym (append_assoc x.waiters s.before (e.waiters ++ s.behind));
      written = λ f. ap (λ ws. x.waiters ++ ws) (s.written f)
          ∙ sym (append_assoc x.waiters s.before (f.waiters ++ s.behind));
      removed = ap (λ ws. x.waiters ++ ws) s.removed
          ∙ sym (append_assoc x.waiters s.before s.behind);
    }

-- an entry that keeps its waiters
set_waiters : (o : PendingData) (i : ℕ) (e f : EntryData) → At o.entries i e
    → f.waiters ≡ e.waiters
    → open_waiters (record o { entries = slice_set o.entries i f }) ≡ open_waiters o
set_waiters o i e f t same =
    let s = split_at o.entries i e t in
    s.written f ∙ ap (λ ws. s.before ++ (ws ++ s.behind)) same ∙ sym s.whole

pub advanced : (o n : PendingData) (id now : ℕ) → Advances o id now true n
    → open_waiters n ≡ open_waiters o
advanced o n id now a =
    ap open_waiters a.1.4
    ∙ set_waiters o a.0 a.1.0 (with_next_upstream a.1.0 now) a.1.1 refl

-- an entry that is settled, with a reply for each of its waiters
pub settled : (c : ConfigData) (arrived : Option (Addr × List ℕ)) (o n : PendingData) (id : ℕ)
    (e : EntryData) (f : WaiterData → PacketData) → IsReplyFor f → Settles o id (Some e) n
    → Deed c arrived (open_waiters o) (open_waiters n) (map f e.waiters)
settled c arrived o n id e f r h =
    let s = split_at o.entries h.0 e h.1 in
    is_settled f s.before e.waiters s.behind [] r s.whole (ap open_waiters h.3 ∙ s.removed)
    (sym (append-nil (map f e.waiters))) (none_at_all c)

-- the reply of an upstream, and a failure, for a waiter
pub relay_is_reply : (g : DigestData) → IsReplyFor (relay_to g)
relay_is_reply g = record {
  to = λ w. refl;
  replies = λ w octets a.
      outline_replies octets _ a.asks a.id (sym a.standard) (sym a.rd) (a.standard, a.past, a.query);
}

pub failure_is_reply : IsReplyFor failure_to
failure_is_reply = record {
  to = λ w. refl;
  replies = λ w octets a.
      outline_replies octets _ a.asks a.id (sym a.standard) (sym a.rd) (a.standard, a.past, a.query);
}

-- what asking makes of those who wait: they are the same, or who asked is one more of them
pub data Joining (old new : List WaiterData) (w : WaiterData) (r : Result Opened PendingFault) : Type 0
  where
    nobody : new ≡ old → Joining old new w r
    one_more : (before behind : List WaiterData) → old ≡ before ++ behind
        → new ≡ before ++ w ∷ behind → ((f : PendingFault) → ¬ (r ≡ Err f)) → Joining old new w r

joining_joined : (o : PendingData) (i : ℕ) (e f : EntryData) (w : WaiterData)
    (r : Result Opened PendingFault) → At o.entries i e → Joins e w r f
    → Joining (open_waiters o) (open_waiters (record o { entries = slice_set o.entries i f })) w r
joining_joined o i e f w r t (waits_already waits is same) =
    nobody (set_waiters o i e f t (ap (λ x. x.waiters) same))
joining_joined o i e f w r t (waits_too new few is more) =
    let s = split_at o.entries i e t in
    let a : f.waiters ≡ e.waiters ++ w ∷ [] = ap (λ x. x.waiters) more in
    one_more (s.before ++ e.waiters) s.behind
    (s.whole ∙ sym (append_assoc s.before e.waiters s.behind))
    (s.written f ∙ ap (λ ws. s.before ++ (ws ++ s.behind)) a
    ∙ ap (λ ws. s.before ++ ws) (append_assoc e.waiters (w ∷ []) s.behind)
    ∙ sym (append_assoc s.before e.waiters (w ∷ s.behind)))
    (λ x no. let q : Ok Joined ≡ Err x = sym is ∙ no in cc)
joining_joined o i e f w r t (no_place new many is same) =
    nobody (set_waiters o i e f t (ap (λ x. x.waiters) same))
joining_joined o i e f w r t (no_memory_for_place new few is same) =
    nobody (set_waiters o i e f t (ap (λ x. x.waiters) same))

joining_opened : (o : PendingData) (fs : List EntryData) (w : WaiterData) (now word : ℕ)
    (r : Result Opened PendingFault) → Opens o.entries w now word r fs
    → Joining (open_waiters o) (open_waiters (record o { entries = fs })) w r
joining_opened o fs w now word r (is_sent id few free is more) =
    one_more (open_waiters o) [] (sym (append-nil (open_waiters o)))
    (ap (λ es. flat_map (λ x. x.waiters) es) more
    ∙ flat_map-append (λ x. x.waiters) o.entries (new_entry w now id ∷ []))
    (λ x no. let q : Ok (Send 0 id) ≡ Err x = sym is ∙ no in cc)
joining_opened o fs w now word r (no_room many is same) =
    nobody (ap (λ es. flat_map (λ x. x.waiters) es) same)
joining_opened o fs w now word r (no_memory_for_room few is same) =
    nobody (ap (λ es. flat_map (λ x. x.waiters) es) same)

pub joining : (o n : PendingData) (w : WaiterData) (now word : ℕ) (r : Result Opened PendingFault)
    → Asks o w now word r n → Joining (open_waiters o) (open_waiters n) w r
joining o n w now word r (joins i e f t a j q) =
    subst (λ (x : PendingData). Joining (open_waiters o) (open_waiters x) w r) (sym q)
    (joining_joined o i e f w r t j)
joining o n w now word r (opens fs a j q) =
    subst (λ (x : PendingData). Joining (open_waiters o) (open_waiters x) w r) (sym q)
    (joining_opened o fs w now word r j)
