-- Steps, ticks and turns of a server.
-- Serves `give`, `receive`, `serve`, `sweep_if_due`, `take_turn`, `tick_all`, the laws
-- `own_replies`, `questions_answered`.
use Rattle.std.proofs.Common.{◌≡◌, IsTrue, IfOk, Vec, ℕ, ◌+◌, ◌<◌, ◌≤◌, List, [], ◌∷◌, ◌++◌, Bool, true, false, max, Option, Some, Result, Ok, Err, inl, inr, refl, sym, ap, subst, ◌∙◌, append_assoc, length, length-append, arith}
use Rattle.std.proofs.lemmas.List.{append-nil}
use Rattle.std.specs.Option.{unwrap_or}
use Rattle.fleet_pending.specs.declared.bounds.TheConstants.{MOST_ENTRIES}
use Rattle.fleet_pending.specs.declared.addr.Addr.{Addr}
use Rattle.fleet_pending.specs.Due.{due_at}
use Rattle.fleet_pending.specs.PendingData.{PendingData}
use Rattle.std.specs.declared.alloc.AllocError.{AllocError}
use Rattle.fleet_site.specs.OutcomeData.{OutcomeData, packet_to, sends}
use Rattle.fleet_site.specs.SiteModel.{SiteModel}
use Rattle.fleet_site.specs.SiteData.{SiteData}
use Rattle.fleet_site.specs.StandsFor.{StandsFor, Follows}
use Rattle.fleet_site.specs.Step.{Call, datagram, tick}
use Rattle.fleet_site.specs.gossip.Sweep.{IsSweep}
use Rattle.fleet_site.specs.Tick.{LeavesFewer}
use Rattle.fleet_site.specs.server.PortRecord.{PortCall, Received, NoDatagram, Fault, NotesAll, PortState, Made, one_more}
use Rattle.fleet_site.specs.server.Sending.{AreSent, packets_of, count_call, count_calls, count_step, goes_on}
use Rattle.fleet_site.specs.steps.Sends.{sweep_outcome, Sends, CarriesOut}
use Rattle.fleet_site.specs.server.Turn.{TurnStep, calling, sweeping, Action, calls_of, count_actions, AllSent, ActionsLead, HasActed, ROOM, no_tick, next_tick, IsSweepDue}
use Rattle.fleet_site.specs.steps.Turned.{loop_state, Turned, Took, GivenOne, ReceivedOne, TickedAll, SweptOnce}
use Rattle.fleet_site.specs.declared.outcome.SiteFault.{SiteFault}
use Rattle.fleet_site.specs.declared.report.Report.{Report}
use Rattle.fleet_site.proofs.ServerLists.{made_none, made_both}
use Rattle.fleet_site.proofs.Loops.{due_by, room, Ticking, Stepped}

calls_of-append : (ys bs : List Action) → calls_of (ys ++ bs) ≡ calls_of ys ++ calls_of bs
calls_of-append [] bs = refl
calls_of-append (a ∷ ys) bs =
    ap (λ xs. a.calls ++ xs) (calls_of-append ys bs)
    ∙ sym (append_assoc a.calls (calls_of ys) (calls_of bs))

count_actions-append : (ys bs : List Action) (r : Report)
    → count_actions (ys ++ bs) r ≡ count_actions bs (count_actions ys r)
count_actions-append [] bs r = refl
count_actions-append (a ∷ ys) bs r =
    count_actions-append ys bs (count_calls a.calls (count_step a.answer r))

all_sent_both : (peers : List Addr) (ys bs : List Action) → AllSent peers ys → AllSent peers bs
    → AllSent peers (ys ++ bs)
all_sent_both peers [] bs h k = k
all_sent_both peers (a ∷ ys) bs h k = (h.0, all_sent_both peers ys bs h.1 k)

pub acts_both : (m k n : SiteModel) (ys bs : List Action) → ActionsLead m ys k → ActionsLead k bs n
    → ActionsLead m (ys ++ bs) n
acts_both m k n [] bs h i = subst (λ (x : SiteModel). ActionsLead x bs n) h i
acts_both m k n (a ∷ ys) bs h i = (h.0, h.1, acts_both h.0 k n ys bs h.2 i)

acted_none : (s : SiteData) → HasActed s s []
acted_none s = record { steps = λ m h. (m, refl, h); config = refl; sent = tt }

acted_both : (s t u : SiteData) (ys bs : List Action) → HasActed s t ys → HasActed t u bs
    → HasActed s u (ys ++ bs)
acted_both s t u ys bs a b = record {
  steps = λ m h. let x = a.steps m h in let y = b.steps x.0 x.2 in
      (y.0, acts_both m x.0 y.0 ys bs x.1 y.1, y.2);
  config = b.config ∙ a.config;
  sent = all_sent_both s.config.peers ys bs a.sent
      (subst (λ (x : _). AllSent x.peers bs) a.config b.sent);
}

pub took_none : (old : PortState) (s : SiteData) (r : Report) → Took (loop_state old s r) (loop_state old s r) []
took_none old s r = record { acted = acted_none s; made = made_none old; report = refl }

took_both : (old mid new : PortState) (s t u : SiteData) (r q p : Report) (ys bs : List Action)
    → Took (loop_state old s r) (loop_state mid t q) ys → Took (loop_state mid t q) (loop_state new u p) bs → Took (loop_state old s r) (loop_state new u p) (ys ++ bs)
took_both old mid new s t u r q p ys bs a b = record {
  acted = acted_both s t u ys bs a.acted b.acted;
  made = rw (calls_of-append ys bs) (made_both old mid new (calls_of ys) (calls_of bs) a.made
      b.made);
  report = b.report ∙ ap (count_actions bs) a.report ∙ sym (count_actions-append ys bs r);
}

-- one step that was carried out
abbrev pub action_of : TurnStep → Result OutcomeData SiteFault → List PortCall → Action
action_of x a calls = record { step = x; answer = a; calls = calls }

acted_one : (s t : SiteData) (x : TurnStep) (a : Result OutcomeData SiteFault) (calls : List PortCall)
    → Stepped x a s t → AreSent (packets_of t.config.peers a) calls
    → HasActed s t (action_of x a calls ∷ [])
acted_one s t x a calls h k = record {
  steps = λ m i. let y = h.step m i in (y.0, (y.0, y.1, refl), y.2);
  config = h.config;
  sent = (subst (λ (z : _). AreSent (packets_of z.peers a) calls) h.config k, tt);
}

took_one : (old new : PortState) (s t : SiteData) (x : TurnStep) (a : Result OutcomeData SiteFault)
    (r q : Report)
    → Stepped x a s t → (c : CarriesOut old new t.config.peers a r q)
    → Took (loop_state old s r) (loop_state new t q) (action_of x a c.calls ∷ [])
took_one old new s t x a r q h c = record {
  acted = acted_one s t x a c.calls h c.sent;
  made = rw (append-nil c.calls) c.made;
  report = c.report;
}

-- a datagram that was given to the site
pub given_one : (old new : PortState) (t w : ℕ) (s u : SiteData) (r q : Report) (from : Addr)
    (octets : List ℕ) (a : Result OutcomeData SiteFault)
    → Stepped (calling (datagram t from octets w)) a s u → CarriesOut old new u.config.peers a r q
    → GivenOne (loop_state old s r) (loop_state new u q) t from octets w
given_one old new t w s u r q from octets a k c = record {
  action = action_of (calling (datagram t from octets w)) a c.calls;
  step = refl;
  took = took_one old new s u (calling (datagram t from octets w)) a r q k c;
}

-- one whose reply was in a buffer, and was sent from there
pub given_reply : (old new : PortState) (t w : ℕ) (s u : SiteData) (r q : Report) (from : Addr)
    (octets reply : List ℕ)
    → Stepped (calling (datagram t from octets w)) (Ok (sends from reply)) s u
    → Sends old new (packet_to from reply) r q → GivenOne (loop_state old s r) (loop_state new u q) t from octets w
given_reply old new t w s u r q from octets reply k c =
    given_one old new t w s u r q from octets (Ok (sends from reply)) k
    (record { calls = c.calls; made = c.made; sent = c.sent; report = c.report })

pub heard_one : (old mid new : PortState) (asked t w : ℕ) (s u : SiteData) (r q p : Report)
    (from : Addr) (octets : List ℕ) → asked ≡ ROOM
    → NotesAll old.noted (Received asked from octets ∷ []) mid.noted → mid.failed ≡ old.failed
    → q ≡ count_call (Received asked from octets) r → GivenOne (loop_state mid s q) (loop_state new u p) t from octets w
    → ReceivedOne (loop_state old s r) (loop_state new u p) t w
heard_one old mid new asked t w s u r q p from octets m n i e g = record {
  arrival = Received asked from octets;
  asks = m;
  actions = g.action ∷ [];
  given = (g.action, refl, g.step);
  acted = g.took.acted;
  made = made_both old mid new (Received asked from octets ∷ []) (calls_of (g.action ∷ []))
      (record { noted = n; failed = i }) g.took.made;
  report = g.took.report ∙ ap (count_actions (g.action ∷ [])) e;
}

pub heard_none : (old new : PortState) (asked t w : ℕ) (s : SiteData) (r q : Report)
    → asked ≡ ROOM
    → NotesAll old.noted (NoDatagram asked ∷ []) new.noted → new.failed ≡ old.failed → q ≡ r
    → ReceivedOne (loop_state old s r) (loop_state new s q) t w
heard_none old new asked t w s r q m n i e =
    record {
      arrival = NoDatagram asked;
      actions = [];
      asks = m;
      given = refl;
      acted = acted_none s;
      made = record { noted = n; failed = i };
      report = e;
    }

pub heard_fault : (old new : PortState) (asked t w : ℕ) (s : SiteData) (r q : Report)
    → asked ≡ ROOM
    → NotesAll old.noted (Fault asked ∷ []) new.noted → new.failed ≡ one_more old.failed
    → q ≡ count_call (Fault asked) r → ReceivedOne (loop_state old s r) (loop_state new s q) t w
heard_fault old new asked t w s r q m n i e =
    record {
      arrival = Fault asked;
      actions = [];
      asks = m;
      given = refl;
      acted = acted_none s;
      made = record { noted = n; failed = i };
      report = e;
    }

pub swept_now : (old new : PortState) (every t from : ℕ) (since : Option ℕ) (s : SiteData)
    (r q : Report) (peers : List Addr) (a : Result OutcomeData SiteFault)
    → from ≡ unwrap_or since t → IsSweepDue every from t → peers ≡ s.config.peers
    → Stepped sweeping a s s → CarriesOut old new peers a r q
    → SweptOnce (loop_state old s r) (loop_state new s q) every t since (Some t)
swept_now old new every t from since s r q peers a d due i k c =
    let y : CarriesOut old new s.config.peers a r q =
    subst (λ (ps : List Addr). CarriesOut old new ps a r q) i c in
    record {
      actions = action_of sweeping a y.calls ∷ [];
      swept = (
        t,
        inl (
          subst (λ (m : ℕ). IsSweepDue every m t) d due,
          (action_of sweeping a y.calls, refl, refl, refl),
        ),
        refl,
      );
      took = took_one old new s s sweeping a r q k y;
    }

pub swept_not : (old : PortState) (every t from : ℕ) (since : Option ℕ) (s : SiteData) (r : Report)
    → from ≡ unwrap_or since t → (¬ IsSweepDue every from t)
    → SweptOnce (loop_state old s r) (loop_state old s r) every t since (Some from)
swept_not old every t from since s r d not_due = record {
  actions = [];
  swept = (from, inr (subst (λ (m : ℕ). ¬ IsSweepDue every m t) d not_due, (refl, d)), refl);
  took = took_none old s r;
}

-- ticks
few_more : (b : Bool) (n d e : ℕ) → n + room true d ≤ MOST_ENTRIES → (b ≡ true → (0 < e) × (e < d))
    → (n + 1) + room b e ≤ MOST_ENTRIES
few_more true n d e h f = let x = f refl in let p : 0 < e = x.0 in let q : e < d = x.1 in
    omega arith
few_more false n d e h f = omega arith

pub ticking_none : (old : PortState) (t : ℕ) (s : SiteData) (r : Report) → due_by s t ≤ MOST_ENTRIES
    → Ticking (loop_state old s r) (loop_state old s r) t true
ticking_none old t s r few =
    record { actions = []; ticks = no_tick; few = omega arith; took = took_none old s r }

pub ticking_more : (old mid new : PortState) (t : ℕ) (s u v : SiteData) (r q p : Report)
    (a : Result OutcomeData SiteFault)
    → Ticking (loop_state old s r) (loop_state mid u q) t true → Stepped (calling (tick t)) a u v
    → CarriesOut mid new v.config.peers a q p
    → v.clock ≡ max u.clock t → (goes_on a ≡ true → LeavesFewer u.pending v.pending v.clock)
    → Ticking (loop_state old s r) (loop_state new v p) t (goes_on a)
ticking_more old mid new t s u v r q p a k h c e fewer =
    let action = action_of (calling (tick t)) a c.calls in
    let n : length (k.actions ++ action ∷ []) ≡ length k.actions + 1 = length-append k.actions (action ∷ []) in
    let same : max v.clock t ≡ v.clock = omega arith in
    let later : due_at v.pending v.clock ≡ due_by v t = ap (due_at v.pending) (sym same) in
    let before : due_at u.pending v.clock ≡ due_by u t = ap (due_at u.pending) e in
    let less : goes_on a ≡ true → (0 < due_by v t) × (due_by v t < due_by u t) =
    λ i. (let z = fewer i in let x = z.some in let y = z.fewer in (omega arith, omega arith)) in
    record {
      actions = k.actions ++ action ∷ [];
      ticks = next_tick action k.ticks refl;
      few = rw n (few_more (goes_on a) (length k.actions) (due_by u t) (due_by v t) k.few less);
      took = took_both old mid new s u v r q p k.actions (action ∷ []) k.took
          (took_one mid new u v (calling (tick t)) a q p h c);
    }

-- a tick that says more leaves fewer
pub fewer_where_more : (r : Result OutcomeData SiteFault) (old new : PendingData)
    (t : ℕ)
    → IfOk r (λ o. IsTrue o.more → LeavesFewer old new t) → goes_on r ≡ true
    → LeavesFewer old new t
fewer_where_more (Ok o) old new t h e = h e
fewer_where_more (Err f) old new t h e = cc

-- the clauses of a call as a step of a turn
pub stepped_call : (c : Call) (r : Result OutcomeData SiteFault) (s u : SiteData)
    → ((m : SiteModel) → StandsFor s m → Follows m c r u) → u.config ≡ s.config
    → Stepped (calling c) r s u
stepped_call c r s u h e =
    record { step = λ m i. let f = h m i in (f.next, f.step, f.stands); config = e }

-- those of a sweep
pub stepped_sweep : {A : Type 0} (r : Result (Vec (List ℕ) A) AllocError) (s : SiteData)
    → ((m : SiteModel) → StandsFor s m → IfOk r (λ frames. IsSweep m frames.items))
    → Stepped sweeping (sweep_outcome r) s s
stepped_sweep (Ok frames) s h =
    record { step = λ m i. (m, (frames.items, h m i, refl, refl), i); config = refl }
stepped_sweep (Err e) s h = record { step = λ m i. (m, (refl, refl), i); config = refl }

pub ticks_all : (old new : PortState) (t : ℕ) (b : Bool) (s u : SiteData) (r q : Report) → b ≡ false
    → Ticking (loop_state old s r) (loop_state new u q) t b → TickedAll (loop_state old s r) (loop_state new u q) t
ticks_all old new t b s u r q e k =
    let j : Ticking (loop_state old s r) (loop_state new u q) t false =
    subst (λ (x : Bool). Ticking (loop_state old s r) (loop_state new u q) t x) e k in
    let n : length j.actions + 0 ≤ MOST_ENTRIES = j.few in
    record { actions = j.actions; ticks = j.ticks; few = omega arith; took = j.took }

-- a turn
pub turn_of : (old one two new : PortState) (t w every : ℕ) (since last : Option ℕ)
    (s u v : SiteData) (r k q p z : Report)
    → k ≡ record r { turns = one_more r.turns }
    → ReceivedOne (loop_state old s k) (loop_state one u q) t w
    → TickedAll (loop_state one u q) (loop_state two v p) t
    → SweptOnce (loop_state two v p) (loop_state new v z) every t since last
    → Turned (loop_state old s r) (loop_state new v z) t w every since last
turn_of old one two new t w every since last s u v r k q p z counted a b c =
    let actions = a.actions ++ (b.actions ++ c.actions) in
    let made = made_both old one new (a.arrival ∷ calls_of a.actions)
    (calls_of b.actions ++ calls_of c.actions) a.made (made_both one two new (calls_of b.actions)
    (calls_of c.actions) b.took.made c.took.made) in
    let e : calls_of actions ≡ calls_of a.actions ++ (calls_of b.actions ++ calls_of c.actions) =
    calls_of-append a.actions (b.actions ++ c.actions) ∙ ap (λ (x : List PortCall). calls_of a.actions ++ x)
    (calls_of-append b.actions c.actions) in
    let first : Report = count_call a.arrival (record r { turns = one_more r.turns }) in
    let n : count_actions actions first ≡ count_actions c.actions
    (count_actions b.actions (count_actions a.actions first)) =
    count_actions-append a.actions (b.actions ++ c.actions) first
    ∙ count_actions-append b.actions c.actions (count_actions a.actions first) in
    let received : q ≡ count_actions a.actions first =
    a.report ∙ ap (λ (x : Report). count_actions a.actions (count_call a.arrival x)) counted in
    record {
      calls = a.arrival ∷ calls_of actions;
      made = subst (λ (x : List PortCall). Made old new (a.arrival ∷ x)) (sym e) made;
      turn = record {
        arrival = a.arrival;
        asks = a.asks;
        given = a.actions;
        ticks = b.actions;
        sweep = c.actions;
        is_given = a.given;
        are_ticks = b.ticks;
        few = b.few;
        is_swept = c.swept;
        acted = acted_both s u v a.actions (b.actions ++ c.actions) a.acted
            (acted_both u v v b.actions c.actions b.took.acted c.took.acted);
        calls = refl;
        report = c.took.report ∙ ap (count_actions c.actions)
            (b.took.report ∙ ap (count_actions b.actions) received) ∙ sym n;
      };
    }
