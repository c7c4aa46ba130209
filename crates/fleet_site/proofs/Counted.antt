-- What the count of short steps says.
-- Serves the laws `own_replies`, `questions_answered`.
use Rattle.std.proofs.Common.{◌≡◌, zero, suc, ◌<◌, ◌≤◌, List, [], ◌∷◌, ◌++◌, Bool, true, false, Result, Ok, Err, IsOk, is_some, refl, sym, ap, ◌∙◌, subst, arith}
use Rattle.std.specs.List.{AllByRecursion}
use Rattle.fleet_site.specs.OutcomeData.{OutcomeData}
use Rattle.fleet_site.specs.server.PortRecord.{PortCall, Received, NoDatagram, Fault, PacketSent, PacketLost, one_more}
use Rattle.fleet_site.specs.server.Sending.{count_call, count_calls, count_refusal_in, count_step}
use Rattle.fleet_site.specs.server.Turn.{Action, count_actions, ServerState, Turn, word_of}
use Rattle.fleet_site.specs.server.Answered.{IsDoneWhole}
use Rattle.fleet_site.specs.server.Clients.{TurnsLead, no_turn, one_turn, RunsAreTurns, MemoryIsCounted}
use Rattle.fleet_site.specs.declared.bounds.TheConstants.{MOST_COUNTED}
use Rattle.fleet_site.specs.declared.outcome.SiteFault.{SiteFault}
use Rattle.fleet_site.specs.declared.report.Report.{Report}

short_call : (c : PortCall) (r : Report) → (count_call c r).short ≡ r.short
short_call (Received asked from octets) r = refl
short_call (NoDatagram asked) r = refl
short_call (Fault asked) r = refl
short_call (PacketSent s) r = refl
short_call (PacketLost s) r = refl

short_calls : (cs : List PortCall) (r : Report) → (count_calls cs r).short ≡ r.short
short_calls [] r = refl
short_calls (c ∷ cs) r = short_calls cs (count_call c r) ∙ short_call c r

short_refusal : (b : Bool) (r : Report) → (count_refusal_in b r).short ≡ r.short
short_refusal true r = refl
short_refusal false r = refl

-- a step is counted where it ran out of memory
short_step : (a : Result OutcomeData SiteFault) (r : Report) → r.short ≤ MOST_COUNTED
    → (r.short ≤ (count_step a r).short) × ((count_step a r).short ≤ MOST_COUNTED)
short_step (Ok e) r l =
    let s = short_refusal (is_some e.refused) r in (omega (arith, s), omega (arith, s, l))
short_step (Err f) r l = (omega (arith, l), omega arith)

-- what an action is counted as
abbrev after : Action → Report → Report
after a r = count_calls a.calls (count_step a.answer r)

short_action : (a : Action) (r : Report) → r.short ≤ MOST_COUNTED
    → (r.short ≤ (after a r).short) × ((after a r).short ≤ MOST_COUNTED)
short_action a r l =
    let s = short_calls a.calls (count_step a.answer r) in
    let t = short_step a.answer r l in
    (omega (arith, s, t.0), omega (arith, s, t.1))

short_actions : (xs : List Action) (r : Report) → r.short ≤ MOST_COUNTED
    → (r.short ≤ (count_actions xs r).short) × ((count_actions xs r).short ≤ MOST_COUNTED)
short_actions [] r l = (omega arith, l)
short_actions (a ∷ xs) r l =
    let s = short_action a r l in
    let t = short_actions xs (after a r) s.1 in
    (omega (arith, s.0, t.0), t.1)

whole_step : (a : Result OutcomeData SiteFault) (r : Report) → r.short < MOST_COUNTED
    → (count_step a r).short ≡ r.short → IsOk a
whole_step (Ok e) r l same = refl
whole_step (Err f) r l same = absurd (omega (arith, l, same))

whole_actions : (xs : List Action) (r : Report) → r.short < MOST_COUNTED
    → (count_actions xs r).short ≡ r.short → AllByRecursion IsDoneWhole xs
whole_actions [] r l same = tt
whole_actions (a ∷ xs) r l same =
    let s = short_action a r (omega (arith, l)) in
    let t = short_actions xs (after a r) s.1 in
    let c = short_calls a.calls (count_step a.answer r) in
    let e : (after a r).short ≡ r.short = omega (arith, s.0, t.0, same) in (
      whole_step a.answer r l (omega (arith, e, c)),
      whole_actions xs (after a r) (omega (arith, e, l)) (omega (arith, e, same)),
    )

all_first : (xs ys : List Action) → AllByRecursion IsDoneWhole (xs ++ ys)
    → AllByRecursion IsDoneWhole xs
all_first [] ys h = tt
all_first (x ∷ xs) ys h = (h.0, all_first xs ys h.1)

all_rest : (xs ys : List Action) → AllByRecursion IsDoneWhole (xs ++ ys)
    → AllByRecursion IsDoneWhole ys
all_rest [] ys h = h
all_rest (x ∷ xs) ys h = all_rest xs ys h.1

-- where the count does not rise in a turn
turn_whole : (t word every : _) (a b : ServerState) (turn : Turn t word every a b)
    → a.report.short < MOST_COUNTED → b.report.short ≡ a.report.short
    → AllByRecursion IsDoneWhole turn.given × AllByRecursion IsDoneWhole turn.ticks
turn_whole t word every a b turn below same =
    let begun : Report = count_call turn.arrival
    (record a.report { turns = one_more a.report.turns }) in
    let c : begun.short ≡ a.report.short = short_call turn.arrival
    (record a.report { turns = one_more a.report.turns }) in
    let xs = turn.given ++ (turn.ticks ++ turn.sweep) in
    let e : b.report.short ≡ (count_actions xs begun).short =
    ap (λ (r : Report). r.short) turn.report in
    let all = whole_actions xs begun (omega (arith, c, below)) (omega (arith, c, e, same)) in (
      all_first turn.given (turn.ticks ++ turn.sweep) all,
      all_first turn.ticks turn.sweep (all_rest turn.given (turn.ticks ++ turn.sweep) all),
    )

-- it never falls
turn_counts : (t word every : _) (a b : ServerState) → Turn t word every a b
    → a.report.short ≤ MOST_COUNTED
    → (a.report.short ≤ b.report.short) × (b.report.short ≤ MOST_COUNTED)
turn_counts t word every a b turn l =
    let begun : Report = count_call turn.arrival
    (record a.report { turns = one_more a.report.turns }) in
    let c : begun.short ≡ a.report.short = short_call turn.arrival
    (record a.report { turns = one_more a.report.turns }) in
    let xs = turn.given ++ (turn.ticks ++ turn.sweep) in
    let e : b.report.short ≡ (count_actions xs begun).short =
    ap (λ (r : Report). r.short) turn.report in
    let s = short_actions xs begun (omega (arith, c, l)) in
    (omega (arith, c, e, s.0), omega (arith, e, s.1))

turns_count : {a b : ServerState} → TurnsLead a b → a.report.short ≤ MOST_COUNTED
    → (a.report.short ≤ b.report.short) × (b.report.short ≤ MOST_COUNTED)
turns_count no_turn l = (omega arith, l)
turns_count (one_turn {b = b} {c = c} t word every before turn) l =
    let x = turns_count before l in
    let y = turn_counts t word every b c turn x.1 in
    (omega (arith, x.0, y.0), y.1)

pub memory_is_counted : MemoryIsCounted
memory_is_counted first a b last t word every turn before behind below same =
    let x = turns_count before (omega (arith, below)) in
    let y = turn_counts t word every a b turn x.1 in
    let z = turns_count behind y.1 in
    turn_whole t word every a b turn (omega (arith, x.0, y.0, z.0, below, same))
    (omega (arith, x.0, y.0, z.0, same))

pub runs_are_turns : RunsAreTurns
runs_are_turns moments words every zero a b h =
    subst (λ (x : ServerState). TurnsLead a x) (sym h) no_turn
runs_are_turns moments words every (suc n) a b h =
    one_turn h.1 (word_of words n) every (runs_are_turns moments words every n a h.0 h.2) h.4
