-- Each step of a turn does one deed.
-- Serves the laws `none_forgotten`, `own_replies`, `questions_answered`.
use Rattle.std.proofs.Common.{◌≡◌, inl, inr, ℕ, suc, ◌+◌, max, false, List, [], ◌∷◌, Option, Some, None, Result, Ok, Err, refl, sym, ap, ◌∙◌, subst}
use Rattle.fleet_name.specs.Places.{At, Has}
use Rattle.fleet_wire.specs.Question.{QuestionData}
use Rattle.fleet_wire.specs.declared.header.Header.{Header}
use Rattle.fleet_wire.specs.declared.rcode.TheConstants.{SERVER_FAILURE, REFUSED}
use Rattle.fleet_wire.specs.Query.{query_octets}
use Rattle.fleet_pending.specs.Waiter.{WaiterData}
use Rattle.fleet_pending.specs.PendingData.{EntryData, PendingData}
use Rattle.fleet_pending.specs.Calls.{open_waiters}
use Rattle.fleet_pending.specs.declared.addr.Addr.{Addr}
use Rattle.fleet_site.specs.ConfigData.{ConfigData, IsAmong}
use Rattle.fleet_site.specs.PacketData.{PacketData}
use Rattle.fleet_site.specs.OutcomeData.{OutcomeData, packet_to, sends}
use Rattle.fleet_site.specs.SiteModel.{SiteModel, Effect}
use Rattle.fleet_site.specs.Step.{Call, datagram, tick, frame, learn, flush, Dispatches, with_call_begun, Does, Stops}
use Rattle.fleet_site.specs.question.AnswerRecords.{bare_octets}
use Rattle.fleet_site.specs.question.Decision.{DecisionData, Dropped, Reply, Unread, Miss}
use Rattle.fleet_site.specs.question.Question.{waiter, Forwarded, is_asked, is_quiet, is_turned_away, Forwards, Reacts}
use Rattle.fleet_site.specs.reply.Reply.{relay_to, Relays, Replied}
use Rattle.fleet_site.specs.reply.Learn.{Learnt}
use Rattle.fleet_site.specs.gossip.Frame.{Framed}
use Rattle.fleet_site.specs.Tick.{failure_to, Serves, Ticked}
use Rattle.fleet_site.specs.server.Sending.{to_each, to_peers, packets_of}
use Rattle.fleet_site.specs.server.Turn.{TurnStep, calling, sweeping, TurnStepSays}
use Rattle.fleet_site.specs.server.Replies.{RepliesTo}
use Rattle.fleet_site.specs.declared.outcome.SiteFault.{SiteFault}
use Rattle.fleet_site.specs.declared.outcome.SiteFault.TheVariants.{OutOfMemory}
use Rattle.fleet_site.proofs.Echoes.{IsMissed, bare_replies, not_false, Suits, decides_suits}
use Rattle.fleet_site.proofs.Deeds as deeds
use Rattle.fleet_site.proofs.Deeds.{IsAsked, NoneToClients, Deed, none_at_all, none_of_both, to_upstream, deed_besides, advanced, settled, relay_is_reply, failure_is_reply, Joining, joining}

-- what an effect does to those who wait, and sends
abbrev DeedOf : ConfigData → Option (Addr × List ℕ) → PendingData → Effect → Type 0
DeedOf c arrived o d = Deed c arrived (open_waiters o) (open_waiters d.asking) d.says.packets

-- nothing is sent, and the table stays
quiet : (c : ConfigData) (arrived : Option (Addr × List ℕ)) (o : PendingData) (d x : Effect)
    → d ≡ x → x.asking ≡ o → x.says.packets ≡ [] → DeedOf c arrived o d
quiet c arrived o d x e same none =
    subst (λ (y : Effect). DeedOf c arrived o y) (sym e)
    (deeds.is_quiet (ap open_waiters same)
    (subst (NoneToClients c) (sym none) (none_at_all c)))

-- a reply at once, and the table stays
at_once : (c : ConfigData) (from : Addr) (octets reply : List ℕ) (o : PendingData) (d x : Effect)
    → d ≡ x → x.asking ≡ o → x.says.packets ≡ packet_to from reply → RepliesTo octets reply
    → DeedOf c (Some (from, octets)) o d
at_once c from octets reply o d x e same is fits =
    subst (λ (y : Effect). DeedOf c (Some (from, octets)) o y) (sym e)
    (deeds.replies_at_once from octets (record { to = from; octets = reply }) [] refl
    (ap open_waiters same) is refl fits (none_at_all c))

-- the question goes to the table of open questions
forwarded : (c : ConfigData) (ups : List Addr) (o : PendingData) (t word : ℕ) (from : Addr)
    (octets : List ℕ) (h : Header) (q : QuestionData) (d : Effect) → ups ≡ c.upstreams
    → IsMissed octets h q → ¬ (h.rd ≡ false) → Forwards ups o t from word h q d
    → DeedOf c (Some (from, octets)) o d
forwarded c ups o t word from octets h q d same missed wants f =
    go (joining o d.asking w t word f.answer f.asks) f.says
  where
    w : WaiterData
    w = waiter from h q

    asked : IsAsked octets (waiter from h q)
    asked = record {
      asks = missed.asks;
      id = ap (λ (x : Header). x.id) missed.header;
      standard = missed.standard;
      rd = sym (ap (λ (x : Header). x.rd) missed.header) ∙ not_false h.rd wants;
      past = missed.past;
      query = missed.query;
    }

    open_to : (u : ℕ) (there : Addr) (bytes : List ℕ) → At ups u there
        → d.says ≡ sends there bytes → NoneToClients c d.says.packets
    open_to u there bytes at is =
        subst (λ (x : OutcomeData). NoneToClients c x.packets) (sym is)
        (to_upstream c u (record { to = there; octets = bytes })
        (subst (λ (xs : List Addr). At xs u there) same at))

    unsent : Joining (open_waiters o) (open_waiters d.asking) w f.answer
        → NoneToClients c d.says.packets → DeedOf c (Some (from, octets)) o d
    unsent (deeds.nobody k) none = deeds.is_quiet k none
    unsent (deeds.one_more before behind old new taken) none =
        deeds.is_taken_in from octets w before behind refl old new refl asked none

    go : Joining (open_waiters o) (open_waiters d.asking) w f.answer
        → Forwarded ups from h q f.answer d.says → DeedOf c (Some (from, octets)) o d
    go j (is_asked u id there at k is) = unsent j (open_to u there (query_octets id q) at is)
    go j (is_quiet k is) =
        unsent j
        (subst (λ (x : OutcomeData). NoneToClients c x.packets) (sym is) (none_at_all c))
    go (deeds.nobody k) (is_turned_away fault n e is) =
        deeds.replies_at_once from octets
        (record { to = from; octets = bare_octets h SERVER_FAILURE (Some q) }) [] refl k
        (ap (λ (x : OutcomeData). x.packets) is) refl
        (bare_replies octets h q SERVER_FAILURE missed) (none_at_all c)
    go (deeds.one_more before behind old new taken) (is_turned_away fault n e is) =
        absurd (taken fault e)

reacts : (c : ConfigData) (ups : List Addr) (o : PendingData) (t word : ℕ) (from : Addr)
    (octets : List ℕ) (v : DecisionData) (d : Effect) → ups ≡ c.upstreams → Suits octets v
    → Reacts ups o t from word v d → DeedOf c (Some (from, octets)) o d
reacts c ups o t word from octets Dropped d same suits e = quiet c _ o d _ e refl refl
reacts c ups o t word from octets (Reply reply) d same suits e =
    at_once c from octets reply o d _ e refl refl suits
reacts c ups o t word from octets (Unread reply f) d same suits e =
    at_once c from octets reply o d _ e refl refl suits
reacts c ups o t word from octets (Miss h q) d same suits (inl e) =
    at_once c from octets (bare_octets h REFUSED (Some q)) o d _ e.1 refl refl
    (bare_replies octets h q REFUSED suits)
reacts c ups o t word from octets (Miss h q) d same suits (inr e) =
    forwarded c ups o t word from octets h q d same suits e.0 e.1

relayed : (c : ConfigData) (arrived : Option (Addr × List ℕ)) (o : PendingData) (t : ℕ)
    (e : EntryData) (g : _) (d : Effect) → Relays o t e g d → DeedOf c arrived o d
relayed c arrived o t e g d r =
    subst (λ (ps : List PacketData). Deed c arrived (open_waiters o) (open_waiters d.asking) ps)
    (sym (ap (λ (x : OutcomeData). x.packets) r.says))
    (settled c arrived o d.asking e.id e (relay_to g) (relay_is_reply g) r.settles)

replied : (c : ConfigData) (arrived : Option (Addr × List ℕ)) (o : PendingData) (t place : ℕ)
    (octets : List ℕ) (d : Effect) → Replied o t place octets d → DeedOf c arrived o d
replied c arrived o t place octets d (inl h) = quiet c arrived o d _ h.1 refl refl
replied c arrived o t place octets d (inr h) = elim h.1 [
  | inl k ↦ quiet c arrived o d _ k.1 refl refl
  | inr k ↦ elim k.1 [
    | inl f ↦ quiet c arrived o d _ f.1.2 refl refl
    | inr r ↦ elim r.1.2 [
      | inl u ↦ quiet c arrived o d _ u.1 refl refl
      | inr u ↦ elim u.1 [
        | inl x ↦ quiet c arrived o d _ x.1 refl refl
        | inr x ↦ elim x.1 [
          | inl y ↦ quiet c arrived o d _ y.1 refl refl
          | inr y ↦ relayed c arrived o t y.1.2.1.0 y.1.0 d y.1.2.1.3
        ]
      ]
    ]
  ]
]

framed : (c : ConfigData) (arrived : Option (Addr × List ℕ)) (o : PendingData)
    (octets : List ℕ) (d : Effect) → Framed o octets d → DeedOf c arrived o d
framed c arrived o octets d (inl h) = quiet c arrived o d _ h.1.2 refl refl
framed c arrived o octets d (inr h) = quiet c arrived o d _ h.1.2 refl refl

learnt : (c : ConfigData) (arrived : Option (Addr × List ℕ)) (o : PendingData) (t : ℕ)
    (octets : List ℕ) (d : Effect) → Learnt o t octets d → DeedOf c arrived o d
learnt c arrived o t octets d (inl f) = quiet c arrived o d _ f.1.2 refl refl
learnt c arrived o t octets d (inr r) = elim r.1.2 [
  | inl x ↦ quiet c arrived o d _ x.1 refl refl
  | inr x ↦ elim x.1 [
    | inl y ↦ quiet c arrived o d _ y.1 refl refl
    | inr y ↦ quiet c arrived o d _ y.1.2 refl refl
  ]
]

served : (c : ConfigData) (arrived : Option (Addr × List ℕ)) (ups : List Addr) (o : PendingData)
    (t : ℕ) (d : Effect) → ups ≡ c.upstreams → Serves ups o t d → DeedOf c arrived o d
served c arrived ups o t d same s = elim s.served [
  | inl h ↦
      let r = h.1 in
      deeds.is_quiet (advanced o d.asking s.entry.id t r.moves)
      (subst (λ (x : OutcomeData). NoneToClients c x.packets) (sym r.says)
      (to_upstream c (s.entry.upstream + 1) (record { to = r.there; octets = _ })
      (subst (λ (xs : List Addr). At xs (s.entry.upstream + 1) r.there) same r.next)))
  | inr h ↦
      let g = h.1 in
      subst (λ (ps : List PacketData). Deed c arrived (open_waiters o) (open_waiters d.asking) ps)
      (sym (ap (λ (x : OutcomeData). x.packets) g.says))
      (settled c arrived o d.asking s.entry.id s.entry failure_to failure_is_reply g.settles)
]

ticked : (c : ConfigData) (arrived : Option (Addr × List ℕ)) (ups : List Addr) (o : PendingData)
    (t : ℕ) (d : Effect) → ups ≡ c.upstreams → Ticked ups o t d → DeedOf c arrived o d
ticked c arrived ups o t d same (inl h) = quiet c arrived o d _ h.1 refl refl
ticked c arrived ups o t d same (inr h) = served c arrived ups o t d same h.1

dispatched : (c : ConfigData) (s : SiteModel) (from : Addr) (word : ℕ) (octets : List ℕ)
    (d : Effect) → s.upstreams ≡ c.upstreams → Dispatches s from word octets d
    → DeedOf c (Some (from, octets)) s.pending d
dispatched c s from word octets d same (inl h) =
    replied c (Some (from, octets)) s.pending s.clock h.1.0 octets d h.1.2
dispatched c s from word octets d same (inr h) = elim h.1 [
  | inl k ↦ framed c (Some (from, octets)) s.pending octets d k.1
  | inr k ↦ reacts c s.upstreams s.pending s.clock word from octets k.1.0 d same
      (decides_suits s.taken s.clock octets k.1.0 k.1.1) k.1.2
]

-- the datagram that a step has, if it has one
abbrev pub arrival_of : TurnStep → Option (Addr × List ℕ)
arrival_of (calling (datagram now from octets word)) = Some (from, octets)
arrival_of (calling (tick now)) = None
arrival_of (calling (frame now octets)) = None
arrival_of (calling (learn now octets)) = None
arrival_of (calling (flush now name)) = None
arrival_of sweeping = None

does : (c : ConfigData) (x : Call) (m : SiteModel) (d : Effect) → m.upstreams ≡ c.upstreams
    → Does x (with_call_begun x m) d → DeedOf c (arrival_of (calling x)) m.pending d
does c (datagram now from octets word) m d same h =
    dispatched c (with_call_begun (datagram now from octets word) m) from word octets d same h
does c (tick now) m d same h = ticked c None m.upstreams m.pending (max m.clock now) d same h
does c (frame now octets) m d same h = framed c None m.pending octets d h
does c (learn now octets) m d same h = learnt c None m.pending (max m.clock now) octets d h
does c (flush now name) m d same h = quiet c None m.pending d _ h.2 refl refl

-- frames go to peers
each_to_peer : (c : ConfigData) (f : List ℕ) (ps : List Addr)
    → ((x : Addr) → Has ps x → IsAmong c.peers x) → NoneToClients c (to_each f ps)
each_to_peer c f [] all p h = absurd h
each_to_peer c f (x ∷ ps) all p (inl same) =
    λ k. k.no_peer (subst (λ (y : PacketData). IsAmong c.peers y.to) same (all x (inl refl)))
each_to_peer c f (x ∷ ps) all p (inr rest) = each_to_peer c f ps (λ y m. all y (inr m)) p rest

has_at : (xs : List Addr) (x : Addr) → Has xs x → IsAmong xs x
has_at [] x h = absurd h
has_at (y ∷ xs) x (inl e) = (0, ap (λ (z : Addr). Some z) e)
has_at (y ∷ xs) x (inr h) = let r = has_at xs x h in (suc r.0, r.1)

frames_to_peers : (c : ConfigData) (fs : List (List ℕ)) → NoneToClients c (to_peers c.peers fs)
frames_to_peers c [] = none_at_all c
frames_to_peers c (f ∷ fs) =
    none_of_both c (to_each f c.peers) (to_peers c.peers fs)
    (each_to_peer c f c.peers (has_at c.peers)) (frames_to_peers c fs)

-- a call that begins leaves the table
begun : (x : Call) (m : SiteModel) → (with_call_begun x m).pending ≡ m.pending
begun (datagram now from octets word) m = refl
begun (tick now) m = refl
begun (frame now octets) m = refl
begun (learn now octets) m = refl
begun (flush now name) m = refl

stopped : (x : Call) (taken : ℕ) (s n : SiteModel) → Stops x taken s n → n.pending ≡ s.pending
stopped x taken s n (inl h) = ap (λ (y : SiteModel). y.pending) h.1
stopped x taken s n (inr h) = ap (λ (y : SiteModel). y.pending) h.2.1

-- each step of a turn does one deed, whatever its answer is
pub deed : (c : ConfigData) (m n : SiteModel) (x : TurnStep) (a : Result OutcomeData SiteFault)
    → m.upstreams ≡ c.upstreams → TurnStepSays m x a n
    → Deed c (arrival_of x) (open_waiters m.pending) (open_waiters n.pending)
    (packets_of c.peers a)
deed c m n sweeping (Ok e) same h =
    deeds.is_quiet (ap (λ (y : SiteModel). open_waiters y.pending) h.3)
    (subst (λ (y : OutcomeData). NoneToClients c (packets_of c.peers (Ok y))) (sym h.2)
    (frames_to_peers c h.0))
deed c m n sweeping (Err (OutOfMemory taken)) same h =
    deeds.is_quiet (ap (λ (y : SiteModel). open_waiters y.pending) h.1) (none_at_all c)
deed c m n (calling x) (Ok e) same h =
    let d = h.0 in
    let one = does c x m d same h.1 in
    let all = deed_besides c (arrival_of (calling x)) (open_waiters m.pending)
    (open_waiters d.asking) d.says.packets (to_peers c.peers d.says.frames)
    (frames_to_peers c d.says.frames) one in
    let P : OutcomeData → Type 0 = λ y. Deed c (arrival_of (calling x)) (open_waiters m.pending)
    (open_waiters d.asking) (packets_of c.peers (Ok y)) in
    let Q : SiteModel → Type 0 = λ y. Deed c (arrival_of (calling x)) (open_waiters m.pending)
    (open_waiters y.pending) (packets_of c.peers (Ok e)) in
    subst Q (sym h.3) (subst P (sym h.2) all)
deed c m n (calling x) (Err (OutOfMemory taken)) same h =
    deeds.is_quiet (ap open_waiters (stopped x taken (with_call_begun x m) n h ∙ begun x m))
    (none_at_all c)
