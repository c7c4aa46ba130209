-- A server replies at most once to each datagram.
-- Serves the laws `none_forgotten`, `own_replies`, `questions_answered`.
use Rattle.std.proofs.Common.{◌≡◌, inl, inr, ℕ, zero, suc, ◌+◌, List, [], ◌∷◌, ◌++◌, Bool, Option, Some, None, Result, Ok, Err, length, append_assoc, map, refl, sym, ap, ◌∙◌, subst}
use Rattle.std.specs.List.{flat_map}
use Rattle.std.proofs.lemmas.List.{append-nil}
use Rattle.std.proofs.lemmas.Option.{same_Some}
use Rattle.rand_core.specs.Stream.{Stream}
use Rattle.fleet_pending.specs.Waiter.{WaiterData}
use Rattle.fleet_pending.specs.PendingData.{EntryData}
use Rattle.fleet_pending.specs.Calls.{open_waiters}
use Rattle.fleet_pending.specs.declared.addr.Addr.{Addr}
use Rattle.fleet_site.specs.ConfigData.{ConfigData}
use Rattle.fleet_site.specs.PacketData.{PacketData}
use Rattle.fleet_site.specs.OutcomeData.{OutcomeData}
use Rattle.fleet_site.specs.SiteData.{SiteData}
use Rattle.fleet_site.specs.SiteModel.{SiteModel}
use Rattle.fleet_site.specs.StandsFor.{StandsFor, opening}
use Rattle.fleet_site.specs.Step.{Call, datagram, tick, frame, learn, flush, with_call_begun, Stops}
use Rattle.fleet_site.specs.server.PortRecord.{PortCall, Received, NoDatagram, Fault, PacketSent, PacketLost}
use Rattle.fleet_site.specs.server.Sending.{IsSend, AreSent, packets_of}
use Rattle.fleet_site.specs.server.Turn.{TurnStep, calling, sweeping, TurnStepSays, Action, calls_of, AllSent, ActionsLead, Given, Ticks, no_tick, next_tick, SweepsWhenDue, ServerState, Turn, Turns, word_of, start_of}
use Rattle.fleet_site.specs.server.Replies.{IsClient, RepliesTo, OwesNothing, NewOwesNothing, RunsLead, no_run, one_run, RepliesOnceInRuns}
use Rattle.fleet_site.specs.declared.outcome.SiteFault.{SiteFault}
use Rattle.fleet_site.specs.declared.outcome.SiteFault.TheVariants.{OutOfMemory}
use Rattle.fleet_site.proofs.Deeds as deeds
use Rattle.fleet_site.proofs.Deeds.{IsAsked, NoneToClients, IsReplyFor, Deed}
use Rattle.fleet_site.proofs.Ledger.{Debt, debt, joins, takes_away, stays, PaysAll, pays_both, sent_same, no_send, replies_from}
use Rattle.fleet_site.proofs.Steps.{arrival_of, deed}

-- a waiter, and the datagram that asked for it
abbrev IsOwed : WaiterData → Debt → Type 0
IsOwed w d = (d.from ≡ w.from) × IsAsked d.octets w

-- those who wait, each with its datagram
abbrev Owed : List WaiterData → List Debt → Type 0
Owed [] [] = Unit {0}
Owed [] (d ∷ ds) = ⊥
Owed (w ∷ ws) [] = ⊥
Owed (w ∷ ws) (d ∷ ds) = IsOwed w d × Owed ws ds

owed_split : (xs ys : List WaiterData) (ds : List Debt) → Owed (xs ++ ys) ds
    → (a : List Debt) × (b : List Debt) × (ds ≡ a ++ b) × Owed xs a × Owed ys b
owed_split [] ys ds h = ([], ds, refl, tt, h)
owed_split (x ∷ xs) ys [] h = absurd h
owed_split (x ∷ xs) ys (d ∷ ds) h =
    let r = owed_split xs ys ds h.1 in
    (d ∷ r.0, r.1, ap (λ (es : List Debt). d ∷ es) r.2, (h.0, r.3), r.4)

owed_both : (xs ys : List WaiterData) (a b : List Debt) → Owed xs a → Owed ys b
    → Owed (xs ++ ys) (a ++ b)
owed_both [] ys [] b h k = k
owed_both [] ys (d ∷ a) b h k = absurd h
owed_both (x ∷ xs) ys [] b h k = absurd h
owed_both (x ∷ xs) ys (d ∷ a) b h k = (h.0, owed_both xs ys a b h.1 k)

sent_split : (ps qs : List PacketData) (calls : List PortCall) → AreSent (ps ++ qs) calls
    → (a : List PortCall) × (b : List PortCall) × (calls ≡ a ++ b) × AreSent ps a × AreSent qs b
sent_split [] qs calls h = ([], calls, refl, tt, h)
sent_split (p ∷ ps) qs [] h = absurd h
sent_split (p ∷ ps) qs (x ∷ calls) h =
    let r = sent_split ps qs calls h.1 in
    (x ∷ r.0, r.1, ap (λ (xs : List PortCall). x ∷ xs) r.2, (h.0, r.3), r.4)

-- what goes to no client changes nothing
none_pays : (c : ConfigData) (k : ℕ) (ps : List PacketData) (calls : List PortCall)
    (ds : List Debt) → NoneToClients c ps → AreSent ps calls → PaysAll c k calls ds ds
none_pays c k [] [] ds n h = refl
none_pays c k [] (x ∷ calls) ds n h = absurd h
none_pays c k (p ∷ ps) [] ds n h = absurd h
none_pays c k (p ∷ ps) (x ∷ calls) ds n h = (
  ds,
  stays
      (λ q i. subst (λ (y : PacketData). ¬ IsClient c y.to) (sent_same x p q h.0 i)
      (n p (inl refl)))
      refl,
  none_pays c (suc k) ps calls ds (λ q m. n q (inr m)) h.1,
)

-- replies to waiters take their datagrams away
all_pay : (c : ConfigData) (k : ℕ) (f : WaiterData → PacketData) (ws : List WaiterData)
    (a before behind : List Debt) (calls : List PortCall) → IsReplyFor f → Owed ws a
    → AreSent (map f ws) calls → PaysAll c k calls (before ++ (a ++ behind)) (before ++ behind)
all_pay c k f [] [] before behind [] r o h = refl
all_pay c k f [] [] before behind (x ∷ calls) r o h = absurd h
all_pay c k f [] (d ∷ a) before behind calls r o h = absurd o
all_pay c k f (w ∷ ws) [] before behind calls r o h = absurd o
all_pay c k f (w ∷ ws) (d ∷ a) before behind [] r o h = absurd h
all_pay c k f (w ∷ ws) (d ∷ a) before behind (x ∷ calls) r o h = (
  before ++ (a ++ behind),
  takes_away (f w) d before (a ++ behind) h.0 refl refl (o.0.0 ∙ sym (r.to w))
      (r.replies w d.octets o.0.1),
  all_pay c (suc k) f ws a before behind calls r o.1 h.1,
)

-- the calls of a step, and those who wait after it, each with its datagram
record Paid (c : ConfigData) (k : ℕ) (calls : List PortCall) (ds : List Debt)
    (ws : List WaiterData) : Type 0 where
  left : List Debt
  pays : PaysAll c k calls ds left
  owed : Owed ws left

paid_none : (c : ConfigData) (k : ℕ) (old new : List WaiterData) (ps : List PacketData)
    (calls : List PortCall) (ds : List Debt) → new ≡ old → NoneToClients c ps → Owed old ds
    → AreSent ps calls → Paid c k calls ds new
paid_none c k old new ps calls ds same none o h = record {
  left = ds;
  pays = none_pays c k ps calls ds none h;
  owed = subst (λ (ws : List WaiterData). Owed ws ds) (sym same) o;
}

paid_settled : (c : ConfigData) (k : ℕ) (old new : List WaiterData) (ps : List PacketData)
    (calls : List PortCall) (ds : List Debt) (f : WaiterData → PacketData)
    (before ws behind : List WaiterData) (others : List PacketData) → IsReplyFor f
    → old ≡ before ++ (ws ++ behind) → new ≡ before ++ behind → ps ≡ map f ws ++ others
    → NoneToClients c others → Owed old ds → AreSent ps calls → Paid c k calls ds new
paid_settled c k old new ps calls ds f before ws behind others r o n e none owed h =
    let a = owed_split before (ws ++ behind) ds
    (subst (λ (xs : List WaiterData). Owed xs ds) o owed) in
    let b = owed_split ws behind a.1 a.4 in
    let s = sent_split (map f ws) others calls
    (subst (λ (xs : List PacketData). AreSent xs calls) e h) in
    let whole : ds ≡ a.0 ++ (b.0 ++ b.1) = a.2 ∙ ap (λ (xs : List Debt). a.0 ++ xs) b.2 in
    let one = all_pay c k f ws b.0 a.0 b.1 s.0 r b.3 s.3 in
    let two = none_pays c (k + length s.0) others s.1 (a.0 ++ b.1) none s.4 in
    let all = pays_both c k s.0 s.1 (a.0 ++ (b.0 ++ b.1)) (a.0 ++ b.1) (a.0 ++ b.1) one two in
    record {
      left = a.0 ++ b.1;
      pays = subst (λ (xs : List PortCall). PaysAll c k xs ds (a.0 ++ b.1)) (sym s.2)
          (subst (λ (xs : List Debt). PaysAll c k (s.0 ++ s.1) xs (a.0 ++ b.1)) (sym whole) all);
      owed = subst (λ (ws : List WaiterData). Owed ws (a.0 ++ b.1)) (sym n)
          (owed_both before behind a.0 b.1 a.3 b.4);
    }

-- a step without a datagram
paid : (c : ConfigData) (k : ℕ) (old new : List WaiterData) (ps : List PacketData)
    (calls : List PortCall) (ds : List Debt) → Deed c None old new ps → Owed old ds
    → AreSent ps calls → Paid c k calls ds new
paid c k old new ps calls ds (deeds.is_quiet same none) o h =
    paid_none c k old new ps calls ds same none o h
paid c k old new ps calls ds (deeds.replies_at_once from octets p others a same e to fits none) o h =
    absurd (let q : None ≡ Some (from, octets) = a in cc)
paid c k old new ps calls ds (deeds.is_taken_in from octets w before behind a b n to asked none) o h =
    absurd (let q : None ≡ Some (from, octets) = a in cc)
paid c k old new ps calls ds (deeds.is_settled f before ws behind others r b n e none) o h =
    paid_settled c k old new ps calls ds f before ws behind others r b n e none o h

-- what is received and not replied to
received : (c : ConfigData) (k room : ℕ) (from : Addr) (octets : List ℕ) (calls : List PortCall)
    (ds : List Debt) (ws : List WaiterData) → Paid c (suc k) calls ds ws
    → Paid c k (Received room from octets ∷ calls) ds ws
received c k room from octets calls ds ws p = record {
  left = p.left;
  pays = (ds, stays (λ q i. absurd (no_send _ room from octets q refl i)) refl, p.pays);
  owed = p.owed;
}

-- a datagram that is replied to at once
paid_at_once : (c : ConfigData) (k room : ℕ) (from : Addr) (octets : List ℕ)
    (old new : List WaiterData) (p : PacketData) (others : List PacketData)
    (calls : List PortCall) (ds : List Debt) → new ≡ old → p.to ≡ from
    → RepliesTo octets p.octets → NoneToClients c others → Owed old ds
    → AreSent (p ∷ others) calls → Paid c k (Received room from octets ∷ calls) ds new
paid_at_once c k room from octets old new p others [] ds same to fits none o h = absurd h
paid_at_once c k room from octets old new p others (x ∷ calls) ds same to fits none o h = record {
  left = ds;
  pays = (
    debt k from octets ∷ ds,
    joins room from octets [] ds refl refl refl,
    (
      ds,
      takes_away p (debt k from octets) [] ds h.0 refl refl (sym to) fits,
      none_pays c (suc (suc k)) others calls ds none h.1,
    ),
  );
  owed = subst (λ (ws : List WaiterData). Owed ws ds) (sym same) o;
}

-- a datagram whose asker waits
paid_taken_in : (c : ConfigData) (k room : ℕ) (from : Addr) (octets : List ℕ)
    (old new before behind : List WaiterData) (w : WaiterData) (ps : List PacketData)
    (calls : List PortCall) (ds : List Debt) → old ≡ before ++ behind
    → new ≡ before ++ w ∷ behind → w.from ≡ from → IsAsked octets w → NoneToClients c ps
    → Owed old ds → AreSent ps calls → Paid c k (Received room from octets ∷ calls) ds new
paid_taken_in c k room from octets old new before behind w ps calls ds b n to asked none o h =
    let a = owed_split before behind ds (subst (λ (xs : List WaiterData). Owed xs ds) b o) in
    let left = a.0 ++ debt k from octets ∷ a.1 in
    record {
      left = left;
      pays = (
        left,
        joins room from octets a.0 a.1 refl a.2 refl,
        none_pays c (suc k) ps calls left none h,
      );
      owed = subst (λ (ws : List WaiterData). Owed ws left) (sym n)
          (owed_both before (w ∷ behind) a.0 (debt k from octets ∷ a.1) a.3
          ((sym to, asked), a.4));
    }

-- a step with the datagram that came
paid_arrived : (c : ConfigData) (k room : ℕ) (from : Addr) (octets : List ℕ)
    (old new : List WaiterData) (ps : List PacketData) (calls : List PortCall) (ds : List Debt)
    → Deed c (Some (from, octets)) old new ps → Owed old ds → AreSent ps calls
    → Paid c k (Received room from octets ∷ calls) ds new
paid_arrived c k room from octets old new ps calls ds (deeds.is_quiet same none) o h =
    received c k room from octets calls ds new
    (paid_none c (suc k) old new ps calls ds same none o h)
paid_arrived c k room from octets old new ps calls ds (deeds.replies_at_once sender asked p others a same e to fits none) o h =
    let x : (from, octets) ≡ (sender, asked) = same_Some _ _ a in
    let y : from ≡ sender = ap (λ (z : Addr × List ℕ). z.0) x in
    let z : octets ≡ asked = ap (λ (z : Addr × List ℕ). z.1) x in
    paid_at_once c k room from octets old new p others calls ds same (to ∙ sym y)
    (subst (λ (m : List ℕ). RepliesTo m p.octets) (sym z) fits) none o
    (subst (λ (xs : List PacketData). AreSent xs calls) e h)
paid_arrived c k room from octets old new ps calls ds (deeds.is_taken_in sender asked w before behind a b n to is none) o h =
    let x : (from, octets) ≡ (sender, asked) = same_Some _ _ a in
    let y : from ≡ sender = ap (λ (z : Addr × List ℕ). z.0) x in
    let z : octets ≡ asked = ap (λ (z : Addr × List ℕ). z.1) x in
    paid_taken_in c k room from octets old new before behind w ps calls ds b n (to ∙ sym y)
    (subst (λ (m : List ℕ). IsAsked m w) (sym z) is) none o h
paid_arrived c k room from octets old new ps calls ds (deeds.is_settled f before ws behind others r b n e none) o h =
    received c k room from octets calls ds new
    (paid_settled c (suc k) old new ps calls ds f before ws behind others r b n e none o h)

-- the addresses stay
call_keeps : (x : Call) (m : SiteModel) → (with_call_begun x m).upstreams ≡ m.upstreams
call_keeps (datagram now from octets word) m = refl
call_keeps (tick now) m = refl
call_keeps (frame now octets) m = refl
call_keeps (learn now octets) m = refl
call_keeps (flush now name) m = refl

stop_keeps : (x : Call) (taken : ℕ) (s n : SiteModel) → Stops x taken s n
    → n.upstreams ≡ s.upstreams
stop_keeps x taken s n (inl h) = ap (λ (y : SiteModel). y.upstreams) h.1
stop_keeps x taken s n (inr h) = ap (λ (y : SiteModel). y.upstreams) h.2.1

pub step_keeps : (m n : SiteModel) (x : TurnStep) (a : Result OutcomeData SiteFault)
    → TurnStepSays m x a n → n.upstreams ≡ m.upstreams
step_keeps m n sweeping (Ok e) h = ap (λ (y : SiteModel). y.upstreams) h.3
step_keeps m n sweeping (Err (OutOfMemory taken)) h = ap (λ (y : SiteModel). y.upstreams) h.1
step_keeps m n (calling x) (Ok e) h = ap (λ (y : SiteModel). y.upstreams) h.3 ∙ call_keeps x m
step_keeps m n (calling x) (Err (OutOfMemory taken)) h =
    stop_keeps x taken (with_call_begun x m) n h ∙ call_keeps x m

-- steps without datagrams
abbrev NoArrivals : List Action → Type 0
NoArrivals [] = Unit {0}
NoArrivals (a ∷ actions) = (arrival_of a.step ≡ None) × NoArrivals actions

no_arrivals_both : (xs ys : List Action) → NoArrivals xs → NoArrivals ys → NoArrivals (xs ++ ys)
no_arrivals_both [] ys h k = k
no_arrivals_both (x ∷ xs) ys h k = (h.0, no_arrivals_both xs ys h.1 k)

ticks_alone : {t : ℕ} {xs : List Action} {more : Bool} → Ticks t xs more → NoArrivals xs
ticks_alone no_tick = tt
ticks_alone (next_tick {actions = actions} a h e) =
    no_arrivals_both actions (a ∷ []) (ticks_alone h) (ap arrival_of e, tt)

sweep_alone : (every since t : ℕ) (xs : List Action) (last : ℕ)
    → SweepsWhenDue every since t xs last → NoArrivals xs
sweep_alone every since t xs last (inl h) =
    subst NoArrivals (sym h.1.1) (ap arrival_of h.1.2, tt)
sweep_alone every since t xs last (inr h) = subst NoArrivals (sym h.1.0) tt

-- what steps do, and where they lead
record PaidTo (c : ConfigData) (k : ℕ) (calls : List PortCall) (ds : List Debt) (n : SiteModel)
    : Type 0 where
  paid : Paid c k calls ds (open_waiters n.pending)
  same : n.upstreams ≡ c.upstreams

acts : (c : ConfigData) (k : ℕ) (m n : SiteModel) (actions : List Action) (ds : List Debt)
    → m.upstreams ≡ c.upstreams → NoArrivals actions → ActionsLead m actions n
    → AllSent c.peers actions → Owed (open_waiters m.pending) ds
    → PaidTo c k (calls_of actions) ds n
acts c k m n [] ds same alone lead sent o = record {
  paid = record {
    left = ds;
    pays = refl;
    owed = subst (λ (x : SiteModel). Owed (open_waiters x.pending) ds) (sym lead) o;
  };
  same = subst (λ (x : SiteModel). x.upstreams ≡ c.upstreams) (sym lead) same;
}
acts c k m n (a ∷ actions) ds same alone lead sent o =
    let mid = lead.0 in
    let d = subst (λ (x : Option (Addr × List ℕ)). Deed c x (open_waiters m.pending)
    (open_waiters mid.pending) (packets_of c.peers a.answer)) alone.0
    (deed c m mid a.step a.answer same lead.1) in
    let one = paid c k (open_waiters m.pending) (open_waiters mid.pending)
    (packets_of c.peers a.answer) a.calls ds d o sent.0 in
    let two = acts c (k + length a.calls) mid n actions one.left
    (step_keeps m mid a.step a.answer lead.1 ∙ same) alone.1 lead.2 sent.1 one.owed in
    record {
      paid = record {
        left = two.paid.left;
        pays = pays_both c k a.calls (calls_of actions) ds one.left two.paid.left one.pays
            two.paid.pays;
        owed = two.paid.owed;
      };
      same = two.same;
    }

-- after a call that sends nothing
silent : (c : ConfigData) (k : ℕ) (x : PortCall) (calls : List PortCall) (ds : List Debt)
    (n : SiteModel) → ((p : PacketData) → ¬ IsSend p x) → PaidTo c (suc k) calls ds n
    → PaidTo c k (x ∷ calls) ds n
silent c k x calls ds n none p = record {
  paid = record {
    left = p.paid.left;
    pays = (ds, stays (λ q i. absurd (none q i)) refl, p.paid.pays);
    owed = p.paid.owed;
  };
  same = p.same;
}

no_datagram_sends : (room : ℕ) (p : PacketData) → ¬ IsSend p (NoDatagram room)
no_datagram_sends room p (inl e) = cc
no_datagram_sends room p (inr e) = cc

no_fault_sends : (room : ℕ) (p : PacketData) → ¬ IsSend p (Fault room)
no_fault_sends room p (inl e) = cc
no_fault_sends room p (inr e) = cc

-- a receive, what it is given to, and the steps after it
given : (c : ConfigData) (k t word : ℕ) (m n : SiteModel) (arrival : PortCall)
    (first rest : List Action) (ds : List Debt) → m.upstreams ≡ c.upstreams
    → Given t word arrival first → NoArrivals rest → ActionsLead m (first ++ rest) n
    → AllSent c.peers (first ++ rest) → Owed (open_waiters m.pending) ds
    → PaidTo c k (arrival ∷ calls_of (first ++ rest)) ds n
given c k t word m n (Received room from octets) first rest ds same g alone lead sent o =
    go (subst (λ (xs : List Action). ActionsLead m (xs ++ rest) n) g.1 lead)
    (subst (λ (xs : List Action). AllSent c.peers (xs ++ rest)) g.1 sent)
  where
    a : Action
    a = g.0

    go : ActionsLead m (g.0 ∷ rest) n → AllSent c.peers (g.0 ∷ rest)
        → PaidTo c k (Received room from octets ∷ calls_of (first ++ rest)) ds n
    go l s =
        let d = subst (λ (x : Option (Addr × List ℕ)). Deed c x (open_waiters m.pending)
        (open_waiters l.0.pending) (packets_of c.peers g.0.answer)) (ap arrival_of g.2)
        (deed c m l.0 g.0.step g.0.answer same l.1) in
        let one = paid_arrived c k room from octets (open_waiters m.pending)
        (open_waiters l.0.pending) (packets_of c.peers g.0.answer) g.0.calls ds d o s.0 in
        let two = acts c (k + length (Received room from octets ∷ g.0.calls)) l.0 n rest one.left
        (step_keeps m l.0 g.0.step g.0.answer l.1 ∙ same) alone l.2 s.1 one.owed in
        let all = pays_both c k (Received room from octets ∷ g.0.calls) (calls_of rest) ds one.left
        two.paid.left one.pays two.paid.pays in
        record {
          paid = record {
            left = two.paid.left;
            pays = subst (λ (xs : List Action).
                PaysAll c k (Received room from octets ∷ calls_of (xs ++ rest)) ds two.paid.left)
                (sym g.1) all;
            owed = two.paid.owed;
          };
          same = two.same;
        }
given c k t word m n (NoDatagram room) first rest ds same g alone lead sent o =
    silent c k (NoDatagram room) (calls_of (first ++ rest)) ds n (no_datagram_sends room)
    (acts c (suc k) m n (first ++ rest) ds same
    (no_arrivals_both first rest (subst NoArrivals (sym g) tt) alone) lead sent o)
given c k t word m n (Fault room) first rest ds same g alone lead sent o =
    silent c k (Fault room) (calls_of (first ++ rest)) ds n (no_fault_sends room)
    (acts c (suc k) m n (first ++ rest) ds same
    (no_arrivals_both first rest (subst NoArrivals (sym g) tt) alone) lead sent o)
given c k t word m n (PacketSent s) first rest ds same g alone lead sent o = absurd g
given c k t word m n (PacketLost s) first rest ds same g alone lead sent o = absurd g

-- what some turns of a run have come to, after the calls of earlier runs
record Kept (c : ConfigData) (earlier : List PortCall) (b : ServerState) : Type 0 where
  model : SiteModel
  stands : StandsFor b.site model
  config : b.site.config ≡ c
  left : List Debt
  pays : PaysAll c 0 (earlier ++ b.calls) [] left
  owed : Owed (open_waiters model.pending) left

turn_keeps : (c : ConfigData) (earlier : List PortCall) (t word every : ℕ) (a b : ServerState)
    → Kept c earlier a → Turn t word every a b → Kept c earlier b
turn_keeps c earlier t word every a b k x =
    let lead = x.acted.steps k.model k.stands in
    let same : k.model.upstreams ≡ c.upstreams =
    k.stands.upstreams ∙ ap (λ (y : ConfigData). y.upstreams) k.config in
    let alone = no_arrivals_both x.ticks x.sweep (ticks_alone x.are_ticks)
    (sweep_alone every _ t x.sweep x.is_swept.0 x.is_swept.1) in
    let sent = subst (λ (y : ConfigData). AllSent y.peers (x.given ++ (x.ticks ++ x.sweep)))
    k.config x.acted.sent in
    let p = given c (0 + length (earlier ++ a.calls)) t word k.model lead.0 x.arrival x.given
    (x.ticks ++ x.sweep) k.left same x.is_given alone lead.1 sent k.owed in
    let calls = x.arrival ∷ calls_of (x.given ++ (x.ticks ++ x.sweep)) in
    let all = pays_both c 0 (earlier ++ a.calls) calls [] k.left p.paid.left k.pays p.paid.pays in
    record {
      model = lead.0;
      stands = lead.2;
      config = x.acted.config ∙ k.config;
      left = p.paid.left;
      pays = subst (λ (xs : List PortCall). PaysAll c 0 xs [] p.paid.left)
          (append_assoc earlier a.calls calls
          ∙ sym (ap (λ (xs : List PortCall). earlier ++ xs) x.calls))
          all;
      owed = p.paid.owed;
    }

turns_keep : (c : ConfigData) (earlier : List PortCall) (ms : Option (ℕ → ℕ)) (s : Stream)
    (every n : ℕ) (a b : ServerState) → Kept c earlier a → Turns ms s every n a b → Kept c earlier b
turns_keep c earlier ms s every zero a b k h = subst (Kept c earlier) (sym h) k
turns_keep c earlier ms s every (suc n) a b k h =
    turn_keeps c earlier h.1 (word_of s n) every h.0 b
    (turns_keep c earlier ms s every n a h.0 k h.2) h.4

-- what runs have come to
pub record KeptBy (c : ConfigData) (calls : List PortCall) (site : SiteData) : Type 0 where
  pub model : SiteModel
  pub stands : StandsFor site model
  pub config : site.config ≡ c
  pub left : List Debt
  pub pays : PaysAll c 0 calls [] left
  pub owed : Owed (open_waiters model.pending) left

-- a run begins where the one before it ended
begun : (c : ConfigData) (calls : List PortCall) (site : SiteData) → KeptBy c calls site
    → Kept c calls (start_of site)
begun c calls site k = record {
  model = k.model;
  stands = k.stands;
  config = k.config;
  left = k.left;
  pays = subst (λ (xs : List PortCall). PaysAll c 0 xs [] k.left) (sym (append-nil calls)) k.pays;
  owed = k.owed;
}

-- nothing may be replied to at first
kept_at_first : (s : SiteData) → OwesNothing s → KeptBy s.config [] s
kept_at_first s h = record {
  model = h.model;
  stands = h.stands;
  config = refl;
  left = [];
  pays = refl;
  owed = subst (λ (es : List EntryData). Owed (flat_map (λ e. e.waiters) es) [])
      (sym h.none.none) tt;
}

runs_keep : (first : SiteData) (h : OwesNothing first) {calls : List PortCall} {site : SiteData}
    → RunsLead first calls site → KeptBy first.config calls site
runs_keep first h no_run = kept_at_first first h
runs_keep first h (one_run {calls = calls} {site = site} {after = after} old new i report run earlier) =
    let k = turns_keep first.config calls i.moments i.words i.every i.turns (start_of site) run.end
    (begun first.config calls site (runs_keep first h earlier)) run.run in
    record {
      model = k.model;
      stands = subst (λ (x : SiteData). StandsFor x k.model) (sym run.is_site) k.stands;
      config = ap (λ (x : SiteData). x.config) run.is_site ∙ k.config;
      left = k.left;
      pays = k.pays;
      owed = k.owed;
    }

pub replies_once : RepliesOnceInRuns
replies_once first after calls h runs =
    let k = runs_keep first h runs in replies_from first.config calls k.left k.pays

-- the calls of the turns of one run
pub turns_pay : (site : SiteData) (ms : Option (ℕ → ℕ)) (s : Stream) (every n : ℕ) (b : ServerState)
    → OwesNothing site → Turns ms s every n (start_of site) b
    → (left : List Debt) × PaysAll site.config 0 b.calls [] left
turns_pay site ms s every n b h turns =
    let k = turns_keep site.config [] ms s every n (start_of site) b
    (begun site.config [] site (kept_at_first site h)) turns in (k.left, k.pays)

pub new_owes_nothing : NewOwesNothing
new_owes_nothing s upstreams peers h = record {
  model = opening upstreams peers;
  stands = h;
  none = record { lawful = h.lawful; none = refl };
}
