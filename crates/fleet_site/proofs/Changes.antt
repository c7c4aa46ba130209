-- How the table of open questions changes at each step of a turn.
-- Serves the laws `none_forgotten`, `own_replies`, `questions_answered`.
use Rattle.std.proofs.Common.{◌≡◌, ◌⊎◌, inl, inr, ℕ, zero, suc, ◌+◌, ◌<◌, ◌≤◌, max, List, [], ◌∷◌, true, Some, None, Result, Ok, Err, map, refl, sym, ap, ◌∙◌, subst, arith}
use Rattle.std.proofs.lemmas.Bool.{cases_lt}
use Rattle.std.proofs.lemmas.Option.{same_Some}
use Rattle.fleet_name.specs.Places.{At, Has}
use Rattle.fleet_name.specs.Name.{wire, lower}
use Rattle.fleet_wire.specs.declared.class.TheConstants.{IN}
use Rattle.fleet_pending.specs.Waiter.{WaiterData}
use Rattle.fleet_pending.specs.PendingData.{EntryData, PendingData}
use Rattle.fleet_pending.specs.Asking.{Asks, Settles, Advances}
use Rattle.fleet_pending.specs.declared.answer.Asked.{Asked as Opened}
use Rattle.fleet_pending.specs.declared.answer.PendingFault.{PendingFault}
use Rattle.fleet_pending.specs.declared.addr.Addr.{Addr}
use Rattle.fleet_site.specs.PacketData.{PacketData}
use Rattle.fleet_site.specs.OutcomeData.{OutcomeData}
use Rattle.fleet_site.specs.SiteModel.{SiteModel, Effect}
use Rattle.fleet_site.specs.Step.{Call, datagram, tick, frame, learn, flush, Dispatches, with_call_begun, Does, Stops}
use Rattle.fleet_site.specs.question.Decision.{DecisionData, Dropped, Reply, Unread, Miss}
use Rattle.fleet_site.specs.question.Question.{waiter, Reacts}
use Rattle.fleet_site.specs.reply.Reply.{relay_to, Replied}
use Rattle.fleet_site.specs.reply.Learn.{Learnt}
use Rattle.fleet_site.specs.gossip.Frame.{Framed}
use Rattle.fleet_site.specs.Tick.{failure_to, Serves, Ticked}
use Rattle.fleet_site.specs.server.Turn.{TurnStep, calling, sweeping, TurnStepSays}
use Rattle.fleet_site.specs.server.Answered.{GetsRelay, GetsFailure}
use Rattle.fleet_site.specs.declared.outcome.SiteFault.{SiteFault}
use Rattle.fleet_site.specs.declared.outcome.SiteFault.TheVariants.{OutOfMemory}
use Rattle.fleet_site.proofs.Echoes.{Suits, decides_suits, question_read}

-- a waiter's question is of class 1, and spelled as its name
abbrev pub IsFitting : WaiterData → Type 0
IsFitting w = (lower w.question.spelled ≡ wire w.question.name) × (w.question.class ≡ IN)

-- The table stays, or someone asks, or an entry moves on, or an entry is settled, and each of its
-- waiters gets a reply. The moment is the clock.
pub data Change (m : SiteModel) (asking : PendingData) (t : ℕ) (x : TurnStep)
    (a : Result OutcomeData SiteFault) : Type 0 where
  unchanged : asking ≡ m.pending → Change m asking t x a
  is_asked : (w : WaiterData) (word : ℕ) (r : Result Opened PendingFault)
      → IsFitting w → Asks m.pending w t word r asking → Change m asking t x a
  moves_on : (id : ℕ) → Advances m.pending id t true asking → Change m asking t x a
  is_settled : (id : ℕ) (e : EntryData) (o : OutcomeData) → a ≡ Ok o
      → Settles m.pending id (Some e) asking
      → ((w : WaiterData) (j : ℕ) → At e.waiters j w → GetsRelay m e w x o ⊎ GetsFailure m e w x o)
      → Change m asking t x a

abbrev ChangeOf : SiteModel → ℕ → TurnStep → Effect → Type 0
ChangeOf m t x d = Change m d.asking t x (Ok d.says)

pub has_map : (f : WaiterData → PacketData) (ws : List WaiterData) (j : ℕ) (w : WaiterData) → At ws j w
    → Has (map f ws) (f w)
has_map f [] j w h = absurd (let e : None ≡ Some w = h in cc)
has_map f (v ∷ ws) zero w h = inl (ap f (same_Some v w h))
has_map f (v ∷ ws) (suc j) w h = inr (has_map f ws j w h)

stays : (m : SiteModel) (t : ℕ) (x : TurnStep) (d y : Effect) → d ≡ y → y.asking ≡ m.pending
    → ChangeOf m t x d
stays m t x d y e same = unchanged (ap (λ (z : Effect). z.asking) e ∙ same)

reacts : (m : SiteModel) (x : TurnStep) (t word : ℕ) (from : Addr) (octets : List ℕ)
    (v : DecisionData) (d : Effect) → Suits octets v
    → Reacts m.upstreams m.pending t from word v d → ChangeOf m t x d
reacts m x t word from octets Dropped d suits e = stays m t x d _ e refl
reacts m x t word from octets (Reply reply) d suits e = stays m t x d _ e refl
reacts m x t word from octets (Unread reply f) d suits e = stays m t x d _ e refl
reacts m x t word from octets (Miss h q) d suits (inl e) = stays m t x d _ e.1 refl
reacts m x t word from octets (Miss h q) d suits (inr e) =
    is_asked (waiter from h q) word e.1.answer
    (question_read octets 12 q suits.past suits.query.question, suits.class) e.1.asks

replied : (m : SiteModel) (now : ℕ) (from : Addr) (octets : List ℕ) (word t place : ℕ)
    (d : Effect) → At m.upstreams place from → Replied m.pending t place octets d
    → ChangeOf m t (calling (datagram now from octets word)) d
replied m now from octets word t place d at (inl h) = stays m t _ d _ h.1 refl
replied m now from octets word t place d at (inr h) = elim h.1 [
  | inl k ↦ stays m t _ d _ k.1 refl
  | inr k ↦ elim k.1 [
    | inl f ↦ stays m t _ d _ f.1.2 refl
    | inr r ↦ elim r.1.2 [
      | inl u ↦ stays m t _ d _ u.1 refl
      | inr u ↦ elim u.1 [
        | inl v ↦ stays m t _ d _ v.1 refl
        | inr v ↦ elim v.1 [
          | inl y ↦ stays m t _ d _ y.1 refl
          | inr y ↦
              let g = y.1.0 in
              let e = y.1.2.1.0 in
              let matched = y.1.2.1.2 in
              let relays = y.1.2.1.3 in
              is_settled e.id e d.says refl relays.settles
              (λ w j there. inl
              (record {
                now = now;
                from = from;
                octets = octets;
                word = word;
                step = refl;
                awaited = record {
                  upstream = subst (λ (k : ℕ). At m.upstreams k from) (sym matched.1) at;
                  message = r.1.0;
                  reads = r.1.1;
                  matches = (matched.0, refl, matched.2, matched.3);
                  digest = g;
                  means = y.1.1;
                };
                sent = subst (λ (o : OutcomeData). Has o.packets (relay_to g w)) (sym relays.says)
                    (has_map (relay_to g) e.waiters j w there);
              }))
        ]
      ]
    ]
  ]
]

framed : (m : SiteModel) (t : ℕ) (x : TurnStep) (octets : List ℕ) (d : Effect)
    → Framed m.pending octets d → ChangeOf m t x d
framed m t x octets d (inl h) = stays m t x d _ h.1.2 refl
framed m t x octets d (inr h) = stays m t x d _ h.1.2 refl

learnt : (m : SiteModel) (t : ℕ) (x : TurnStep) (octets : List ℕ) (d : Effect)
    → Learnt m.pending t octets d → ChangeOf m t x d
learnt m t x octets d (inl f) = stays m t x d _ f.1.2 refl
learnt m t x octets d (inr r) = elim r.1.2 [
  | inl u ↦ stays m t x d _ u.1 refl
  | inr u ↦ elim u.1 [
    | inl y ↦ stays m t x d _ y.1 refl
    | inr y ↦ stays m t x d _ y.1.2 refl
  ]
]

dispatched : (m : SiteModel) (now : ℕ) (from : Addr) (octets : List ℕ) (word t : ℕ)
    (d : Effect) → Dispatches (record m { clock = t }) from word octets d
    → ChangeOf m t (calling (datagram now from octets word)) d
dispatched m now from octets word t d (inl h) =
    replied m now from octets word t h.1.0 d h.1.1 h.1.2
dispatched m now from octets word t d (inr h) = elim h.1 [
  | inl k ↦ framed m t _ octets d k.1
  | inr k ↦ reacts m _ t word from octets k.1.0 d
      (decides_suits m.taken t octets k.1.0 k.1.1) k.1.2
]

at_last : (a b : ℕ) → ¬ (a < b) → b ≤ a
at_last a b n = elim (cases_lt a b) [ inl l ↦ absurd (n l) | inr g ↦ g ]

served : (m : SiteModel) (now : ℕ) (d : Effect)
    → Serves m.upstreams m.pending (max m.clock now) d
    → ChangeOf m (max m.clock now) (calling (tick now)) d
served m now d s = elim s.served [
  | inl h ↦ moves_on s.entry.id h.1.moves
  | inr h ↦
      let g = h.1 in
      is_settled s.entry.id s.entry d.says refl g.settles
      (λ w j there. inr
      (record {
        now = now;
        step = refl;
        over = s.due.due;
        last = at_last (s.entry.upstream + 1) m.pending.upstreams h.0;
        sent = subst (λ (o : OutcomeData). Has o.packets (failure_to w)) (sym g.says)
            (has_map failure_to s.entry.waiters j w there);
      }))
]

ticked : (m : SiteModel) (now : ℕ) (d : Effect)
    → Ticked m.upstreams m.pending (max m.clock now) d
    → ChangeOf m (max m.clock now) (calling (tick now)) d
ticked m now d (inl h) = stays m _ _ d _ h.1 refl
ticked m now d (inr h) = served m now d h.1

-- the clock of a call
abbrev clock_of : Call → SiteModel → ℕ
clock_of (datagram now from octets word) m = max m.clock now
clock_of (tick now) m = max m.clock now
clock_of (frame now octets) m = max m.clock now
clock_of (learn now octets) m = max m.clock now
clock_of (flush now name) m = max m.clock now

clock_begun : (x : Call) (m : SiteModel) → (with_call_begun x m).clock ≡ clock_of x m
clock_begun (datagram now from octets word) m = refl
clock_begun (tick now) m = refl
clock_begun (frame now octets) m = refl
clock_begun (learn now octets) m = refl
clock_begun (flush now name) m = refl

clock_rises : (x : Call) (m : SiteModel) → m.clock ≤ clock_of x m
clock_rises (datagram now from octets word) m = omega arith
clock_rises (tick now) m = omega arith
clock_rises (frame now octets) m = omega arith
clock_rises (learn now octets) m = omega arith
clock_rises (flush now name) m = omega arith

table_begun : (x : Call) (m : SiteModel) → (with_call_begun x m).pending ≡ m.pending
table_begun (datagram now from octets word) m = refl
table_begun (tick now) m = refl
table_begun (frame now octets) m = refl
table_begun (learn now octets) m = refl
table_begun (flush now name) m = refl

does : (x : Call) (m : SiteModel) (d : Effect) → Does x (with_call_begun x m) d
    → ChangeOf m (clock_of x m) (calling x) d
does (datagram now from octets word) m d h = dispatched m now from octets word (max m.clock now) d h
does (tick now) m d h = ticked m now d h
does (frame now octets) m d h = framed m _ _ octets d h
does (learn now octets) m d h = learnt m _ _ octets d h
does (flush now name) m d h = stays m _ _ d _ h.2 refl

-- what a step makes of the table, and of the clock
pub record Changes (m n : SiteModel) (x : TurnStep) (a : Result OutcomeData SiteFault) : Type 0 where
  pub table : Change m n.pending n.clock x a
  pub clock : m.clock ≤ n.clock

same_model : (m n : SiteModel) (x : TurnStep) (a : Result OutcomeData SiteFault) → n ≡ m
    → Changes m n x a
same_model m n x a e = record {
  table = unchanged (ap (λ (y : SiteModel). y.pending) e);
  clock = let c : n.clock ≡ m.clock = ap (λ (y : SiteModel). y.clock) e in omega (arith, c);
}

stopped : (x : Call) (taken : ℕ) (s n : SiteModel) → Stops x taken s n
    → (n.pending ≡ s.pending) × (n.clock ≡ s.clock)
stopped x taken s n (inl h) =
    (ap (λ (y : SiteModel). y.pending) h.1, ap (λ (y : SiteModel). y.clock) h.1)
stopped x taken s n (inr h) =
    (ap (λ (y : SiteModel). y.pending) h.2.1, ap (λ (y : SiteModel). y.clock) h.2.1)

pub changes : (m n : SiteModel) (x : TurnStep) (a : Result OutcomeData SiteFault)
    → TurnStepSays m x a n → Changes m n x a
changes m n sweeping (Ok e) h = same_model m n _ _ h.3
changes m n sweeping (Err (OutOfMemory taken)) h = same_model m n _ _ h.1
changes m n (calling x) (Ok e) h =
    let d = h.0 in
    let c : n.clock ≡ clock_of x m = ap (λ (y : SiteModel). y.clock) h.3 ∙ clock_begun x m in
    let p : n.pending ≡ d.asking = ap (λ (y : SiteModel). y.pending) h.3 in
    let one = does x m d h.1 in
    let two = subst (λ (y : OutcomeData). Change m d.asking (clock_of x m) (calling x) (Ok y))
    (sym h.2) one in
    let three = subst (λ (o : PendingData). Change m o (clock_of x m) (calling x) (Ok e)) (sym p)
    two in
    record {
      table = subst (λ (t : ℕ). Change m n.pending t (calling x) (Ok e)) (sym c) three;
      clock = omega (arith, c, clock_rises x m);
    }
changes m n (calling x) (Err (OutOfMemory taken)) h =
    let s = stopped x taken (with_call_begun x m) n h in
    record {
      table = unchanged (s.0 ∙ table_begun x m);
      clock = omega (arith, s.1, clock_begun x m, clock_rises x m);
    }
