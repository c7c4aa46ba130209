-- Runs of a server, and what its counts say.
-- Serves `serve`.
use Rattle.std.proofs.Common.{◌≡◌, ℕ, suc, zero, ◌+◌, ◌%◌, ◌<◌, ◌≤◌, List, [], ◌∷◌, ◌++◌, Bool, true, false, Option, Some, None, Result, Ok, Err, IfSome, is_some, refl, sym, ap, subst, ◌∙◌, arith, add-one, add-zero}
use Rattle.rand_core.specs.Stream.{Stream, next_u32}
use Rattle.fleet_site.specs.declared.bounds.TheConstants.{MOST_COUNTED}
use Rattle.fleet_site.specs.OutcomeData.{OutcomeData}
use Rattle.fleet_site.specs.SiteModel.{SiteModel}
use Rattle.fleet_site.specs.SiteData.{SiteData}
use Rattle.fleet_site.specs.StandsFor.{StandsFor}
use Rattle.fleet_site.specs.server.PortRecord.{PortCall, Received, NoDatagram, Fault, PacketSent, PacketLost, PortState, failures_of, one_more}
use Rattle.fleet_site.specs.server.Sending.{count_call, count_calls, count_refusal_in, count_step}
use Rattle.fleet_site.specs.server.Turn.{Action, calls_of, count_actions, ActionsLead, ServerState, Turn, left_after, word_of, HasPassed, IsMomentOfTurn, Turns, empty_report, start_of}
use Rattle.fleet_site.specs.server.Served.{Served, FollowsSteps}
use Rattle.fleet_site.specs.steps.Turned.{loop_state, Turned}
use Rattle.fleet_site.specs.declared.outcome.SiteFault.{SiteFault}
use Rattle.fleet_site.specs.declared.report.Report.{Report}
use Rattle.fleet_site.proofs.ServerLists.{made_none, made_both, failures_of-append}
use Rattle.fleet_site.proofs.ServerTurns.{acts_both}
use Rattle.fleet_site.proofs.Loops.{Serves, CountsFailures}

moment_at : (f : ℕ → ℕ) (n t : ℕ) (now next : Option (ℕ → ℕ)) → HasPassed (Some f) n now
    → IfSome now (λ h. (t ≡ h 0) × (next ≡ Some (λ k. h (k + 1)))) → t ≡ f n
moment_at f n t now next a c =
    let d = subst (λ (o : Option (ℕ → ℕ)). IfSome o
    (λ h. (t ≡ h 0) × (next ≡ Some (λ k. h (k + 1))))) a.1 c in
    d.0 ∙ a.2 0 ∙ ap f (add-zero n)

pub past_none : (moments : Option (ℕ → ℕ)) → HasPassed moments 0 moments
past_none None = tt
past_none (Some f) = (f, refl, λ k. ap f (let e : k ≡ 0 + k = omega arith in e))

pub past_more : (ms now next : Option (ℕ → ℕ)) (n t : ℕ) → HasPassed ms n now
    → IfSome now (λ h. (t ≡ h 0) × (next ≡ Some (λ k. h (k + 1)))) → HasPassed ms (n + 1) next
past_more None now next n t a c = tt
past_more (Some f) now next n t a c =
    let d = subst (λ (o : Option (ℕ → ℕ)). IfSome o
    (λ h. (t ≡ h 0) × (next ≡ Some (λ k. h (k + 1))))) a.1 c in (
      (λ k. a.0 (k + 1)),
      d.1,
      λ k. a.2 (k + 1) ∙ ap f
          (let e : n + (k + 1) ≡ (n + 1) + k = omega arith in e),
    )

pub is_moment : (ms now next : Option (ℕ → ℕ)) (n t : ℕ) → HasPassed ms n now
    → IfSome now (λ h. (t ≡ h 0) × (next ≡ Some (λ k. h (k + 1)))) → IsMomentOfTurn ms n t
is_moment None now next n t a c = tt
is_moment (Some f) now next n t a c = moment_at f n t now next a c

pub left_more : (s u v : Stream) (n w : ℕ) → u ≡ left_after n s → (w, v) ≡ next_u32 u
    → (v ≡ left_after (n + 1) s) × (w % 65536 ≡ word_of s n)
left_more s u v n w e h =
    let p : v ≡ (next_u32 u).1 = ap (λ (q : ℕ × Stream). q.1) h in
    let q : w ≡ (next_u32 u).0 = ap (λ (q : ℕ × Stream). q.0) h in (
      p ∙ ap (λ x. (next_u32 x).1) e ∙ ap (λ k. left_after k s) (sym (add-one n)),
      ap (λ x. x % 65536) (q ∙ ap (λ x. (next_u32 x).0) e),
    )

pub serves_none : (old : PortState) (ms : Option (ℕ → ℕ)) (s : Stream) (every : ℕ) (site : SiteData)
    → Serves old old ms s 0 every site site None empty_report
serves_none old ms s every site =
    record {
      end = start_of site;
      run = refl;
      made = made_none old;
      is_site = refl;
      is_swept = refl;
      is_report = refl;
    }

-- a turn moved after the calls so far
later_turn : (t w every : ℕ) (s u : SiteData) (before calls : List PortCall) (since last : Option ℕ)
    (r q : Report)
    → Turn t w every (record { site = s; calls = []; swept = since; report = r })
    (record { site = u; calls = calls; swept = last; report = q })
    → Turn t w every (record { site = s; calls = before; swept = since; report = r })
    (record { site = u; calls = before ++ calls; swept = last; report = q })
later_turn t w every s u before calls since last r q k = record {
  arrival = k.arrival;
  asks = k.asks;
  given = k.given;
  ticks = k.ticks;
  sweep = k.sweep;
  is_given = k.is_given;
  are_ticks = k.are_ticks;
  few = k.few;
  is_swept = k.is_swept;
  acted = k.acted;
  calls = ap (λ (x : List PortCall). before ++ x) k.calls;
  report = k.report;
}

pub serves_more : (old mid new : PortState) (ms : Option (ℕ → ℕ)) (s : Stream)
    (n every t w : ℕ) (a b c : SiteData) (swept last : Option ℕ) (r q : Report)
    → Serves old mid ms s n every a b swept r
    → IsMomentOfTurn ms n t
    → w ≡ word_of s n
    → Turned (loop_state mid b r) (loop_state new c q) t w every swept last
    → Serves old new ms s (n + 1) every a c last q
serves_more old mid new ms s n every t w a b c swept last r q k m e x =
    let start : ServerState = start_of a in
    let here : ServerState = record { site = b; calls = k.end.calls; swept = swept; report = r } in
    let end : ServerState = record {
      site = c;
      calls = k.end.calls ++ x.calls;
      swept = last;
      report = q;
    } in
    let same : k.end ≡ here =
    λ i. record {
      site = sym k.is_site i;
      calls = k.end.calls;
      swept = sym k.is_swept i;
      report = sym k.is_report i;
    } in
    let turn : Turn t w every here end =
    later_turn t w every b c k.end.calls x.calls swept last r q x.turn in
    let drawn : Turn t (word_of s n) every here end =
    subst (λ (y : ℕ). Turn t y every here end) e turn in
    let from : Turn t (word_of s n) every k.end end =
    subst (λ (y : ServerState). Turn t (word_of s n) every y end) (sym same) drawn in
    let all : Turns ms s every (suc n) start end = (k.end, t, k.run, m, from) in
    record {
      end = end;
      run = subst (λ (y : ℕ). Turns ms s every y start end) (sym (add-one n)) all;
      made = made_both old mid new k.end.calls x.calls k.made x.made;
      is_site = refl;
      is_swept = refl;
      is_report = refl;
    }

pub serves_run : (old new : PortState) (ms : Option (ℕ → ℕ)) (s : Stream) (n every : ℕ)
    (a b : SiteData) (swept : Option ℕ) (r : Report)
    → Serves old new ms s n every a b swept r → Served old new a b
    (record { moments = ms; words = s; turns = n; every = every }) r
serves_run old new ms s n every a b swept r k =
    record { end = k.end; run = k.run; made = k.made; is_site = k.is_site; is_report = k.is_report }

-- failures
counts_more : (a b d : ℕ) (r s u : Report) → CountsFailures a b r s → CountsFailures b d s u
    → CountsFailures a d r u
counts_more a b d r s u h k = record {
  lost = λ n. let y : s.lost ≤ u.lost = k.lost n in
      let x : r.lost ≤ s.lost = h.lost (omega arith) in omega arith;
  faults = λ n. let y : s.faults ≤ u.faults = k.faults n in
      let x : r.faults ≤ s.faults = h.faults (omega arith) in omega arith;
  failed = λ n. let y : b ≤ d = k.failed n in let x : a ≤ b = h.failed (omega arith) in omega arith;
  sum = λ l f n.
      let y : b ≤ d = k.failed n in
      let v : s.lost ≤ u.lost = k.lost l in
      let w : s.faults ≤ u.faults = k.faults f in
      let p : b + (r.lost + r.faults) ≡ a + (s.lost + s.faults) =
      h.sum (omega arith) (omega arith) (omega arith) in
      let q : d + (s.lost + s.faults) ≡ b + (u.lost + u.faults) = k.sum l f n in
      omega arith;
}

counts_same : (a : ℕ) (r q : Report) → q.lost ≡ r.lost → q.faults ≡ r.faults
    → CountsFailures a a r q
counts_same a r q l f = record {
  lost = λ n. omega arith;
  faults = λ n. omega arith;
  failed = λ n. omega arith;
  sum = λ x y n. omega arith;
}

counts_lost : (a : ℕ) (r : Report) → CountsFailures a (one_more a) r
    (record r { lost = one_more r.lost })
counts_lost a r = record {
  lost = λ n. omega arith;
  faults = λ n. omega arith;
  failed = λ n. omega arith;
  sum = λ x y n. omega arith;
}

counts_fault : (a : ℕ) (r : Report) → CountsFailures a (one_more a) r
    (record r { faults = one_more r.faults })
counts_fault a r = record {
  lost = λ n. omega arith;
  faults = λ n. omega arith;
  failed = λ n. omega arith;
  sum = λ x y n. omega arith;
}

counts_calls : (cs : List PortCall) (a : ℕ) (r : Report)
    → CountsFailures a (failures_of cs a) r (count_calls cs r)
counts_calls [] a r = counts_same a r r refl refl
counts_calls (Received asked from octets ∷ cs) a r =
    counts_more _ _ _ _ _ _ (counts_same a r (count_call (Received asked from octets) r) refl refl)
    (counts_calls cs a (count_call (Received asked from octets) r))
counts_calls (NoDatagram asked ∷ cs) a r = counts_calls cs a r
counts_calls (Fault asked ∷ cs) a r =
    counts_more _ _ _ _ _ _ (counts_fault a r) (counts_calls cs (one_more a) (count_call (Fault asked) r))
counts_calls (PacketSent s ∷ cs) a r =
    counts_more _ _ _ _ _ _ (counts_same a r (count_call (PacketSent s) r) refl refl)
    (counts_calls cs a (count_call (PacketSent s) r))
counts_calls (PacketLost s ∷ cs) a r =
    counts_more _ _ _ _ _ _ (counts_lost a r) (counts_calls cs (one_more a)
    (count_call (PacketLost s) r))

counts_refusal : (b : Bool) (a : ℕ) (r : Report) → CountsFailures a a r (count_refusal_in b r)
counts_refusal true a r = counts_same a r _ refl refl
counts_refusal false a r = counts_same a r _ refl refl

counts_step : (x : Result OutcomeData SiteFault) (a : ℕ) (r : Report)
    → CountsFailures a a r (count_step x r)
counts_step (Ok e) a r = counts_refusal (is_some e.refused) a r
counts_step (Err f) a r = counts_same a r _ refl refl

counts_actions : (xs : List Action) (a : ℕ) (r : Report)
    → CountsFailures a (failures_of (calls_of xs) a) r (count_actions xs r)
counts_actions [] a r = counts_same a r r refl refl
counts_actions (x ∷ xs) a r =
    let one = counts_more a a (failures_of x.calls a) r (count_step x.answer r)
    (count_calls x.calls (count_step x.answer r)) (counts_step x.answer a r)
    (counts_calls x.calls a (count_step x.answer r)) in
    let rest = counts_actions xs (failures_of x.calls a)
    (count_calls x.calls (count_step x.answer r)) in
    rw (failures_of-append x.calls (calls_of xs) a)
    (counts_more a (failures_of x.calls a) (failures_of (calls_of xs) (failures_of x.calls a)) r
    (count_calls x.calls (count_step x.answer r))
    (count_actions xs (count_calls x.calls (count_step x.answer r))) one rest)

counts_turn : (t w every : ℕ) (a b : ServerState) (n : ℕ) → Turn t w every a b
    → CountsFailures (failures_of a.calls n) (failures_of b.calls n) a.report b.report
counts_turn t w every a b n k =
    let actions = k.given ++ (k.ticks ++ k.sweep) in
    let start : Report = record a.report { turns = one_more a.report.turns } in
    let x = failures_of a.calls n in
    let one = counts_same x a.report start refl refl in
    let two = counts_calls (k.arrival ∷ []) x start in
    let three = counts_actions actions (failures_of (k.arrival ∷ []) x) (count_call k.arrival start) in
    let all = counts_more _ _ _ a.report start (count_actions actions (count_call k.arrival start)) one
    (counts_more _ _ _ start (count_call k.arrival start)
    (count_actions actions (count_call k.arrival start)) two three) in
    let e : failures_of b.calls n ≡ failures_of (calls_of actions) (failures_of (k.arrival ∷ []) x) =
    ap (λ (cs : List PortCall). failures_of cs n) k.calls
    ∙ failures_of-append a.calls (k.arrival ∷ calls_of actions) n
    ∙ failures_of-append (k.arrival ∷ []) (calls_of actions) x in
    rw (e, k.report) all

counts_turns : (ms : Option (ℕ → ℕ)) (s : Stream) (every m : ℕ) (a b : ServerState) (n : ℕ)
    → Turns ms s every m a b → CountsFailures (failures_of a.calls n) (failures_of b.calls n)
    a.report b.report
counts_turns ms s every zero a b n h =
    rw h (counts_same (failures_of a.calls n) a.report a.report refl refl)
counts_turns ms s every (suc m) a b n h =
    counts_more _ _ _ a.report h.0.report b.report (counts_turns ms s every m a h.0 n h.2)
    (counts_turn h.1 (word_of s m) every h.0 b n h.4)

pub serves_failures : (old new : PortState) (ms : Option (ℕ → ℕ)) (s : Stream) (n every : ℕ)
    (a b : SiteData) (swept : Option ℕ) (r : Report)
    → Serves old new ms s n every a b swept r
    → r.lost < MOST_COUNTED → r.faults < MOST_COUNTED → new.failed < MOST_COUNTED
    → new.failed ≡ old.failed + (r.lost + r.faults)
serves_failures old new ms s n every a b swept r k l i j =
    let x = counts_turns ms s every n (start_of a) k.end old.failed k.run in
    let e : new.failed ≡ failures_of k.end.calls old.failed = k.made.failed in
    let p : r.lost ≡ k.end.report.lost = ap (λ (y : Report). y.lost) k.is_report in
    let q : r.faults ≡ k.end.report.faults = ap (λ (y : Report). y.faults) k.is_report in
    let z : failures_of k.end.calls old.failed + (0 + 0) ≡ old.failed
    + (k.end.report.lost + k.end.report.faults) = x.sum (omega arith) (omega arith) (omega arith) in
    omega arith

-- over a whole run the site follows the steps
run_follows : (ms : Option (ℕ → ℕ)) (s : Stream) (every n : ℕ) (a b : ServerState)
    → Turns ms s every n a b → (m : SiteModel) → StandsFor a.site m
    → (k : SiteModel) × (actions : List Action) × ActionsLead m actions k × StandsFor b.site k
run_follows ms s every zero a b h m i =
    (m, [], refl, subst (λ (x : ServerState). StandsFor x.site m) (sym h) i)
run_follows ms s every (suc n) a b h m i =
    let x = run_follows ms s every n a h.0 h.2 m i in
    let y = h.4.acted.steps x.0 x.3 in (
      y.0,
      x.1 ++ (h.4.given ++ (h.4.ticks ++ h.4.sweep)),
      acts_both m x.0 y.0 x.1 (h.4.given ++ (h.4.ticks ++ h.4.sweep)) x.2 y.1,
      y.2,
    )

pub serves_follows : (old new : PortState) (ms : Option (ℕ → ℕ)) (s : Stream) (n every : ℕ)
    (a b : SiteData) (swept : Option ℕ) (r : Report)
    → Serves old new ms s n every a b swept r → FollowsSteps a b
serves_follows old new ms s n every a b swept r k = record {
  steps = λ m i.
      let x = run_follows ms s every n (start_of a) k.end k.run m i in
      (x.0, x.1, x.2, subst (λ (y : SiteData). StandsFor y x.0) (sym k.is_site) x.3);
}
