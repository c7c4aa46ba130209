-- What the clients of a server over a socket get.
-- Serves the laws `own_replies`, `questions_answered`.
use Rattle.std.proofs.Common.{◌≡◌, ℕ, zero, suc, List, [], ◌∷◌, ◌++◌, append_assoc, length, sym, ap, ◌∙◌, subst}
use Rattle.fleet_name.specs.Places.{At}
use Rattle.fleet_site.specs.server.PortRecord.{PortCall, Received}
use Rattle.fleet_site.specs.server.Turn.{calls_of, ServerState}
use Rattle.fleet_site.specs.server.Replies.{SentAt, RepliesOnce, no_run}
use Rattle.fleet_site.specs.server.Clients.{TurnsLead, no_turn, one_turn, ServerTries}
use Rattle.fleet_site.specs.socket.Clients.{RepliesOnceOverSockets, IsAnsweredOver, QuestionsAnsweredOverSockets}
use Rattle.fleet_site.proofs.Answering.{at_front}
use Rattle.fleet_site.proofs.Ledger.{replies_from}
use Rattle.fleet_site.proofs.Replying.{turns_pay}
use Rattle.fleet_site.proofs.Serving.{questions_answered}
use Rattle.fleet_site.proofs.SocketLedger.{replies_over}
use Rattle.fleet_site.proofs.Carried.{asks_room, calls_lead, answered_over}

leads_both : {a b : ServerState} (d : ServerState) → TurnsLead a b → TurnsLead b d → TurnsLead a d
leads_both d h no_turn = h
leads_both d h (one_turn {b = b} t word every before turn) =
    one_turn t word every (leads_both b h before) turn

-- tries are turns
tries_lead : (u : ℕ) (a b : ServerState) → ServerTries u a b → TurnsLead a b
tries_lead zero a b h = subst (λ (x : ServerState). TurnsLead a x) (sym h) no_turn
tries_lead (suc u) a b h =
    let r = h.1 in
    leads_both b (one_turn r.now r.word r.every r.turns r.turn) (tries_lead u h.0 b h.2)

pub replies_once_over_sockets : RepliesOnceOverSockets
replies_once_over_sockets calls p site i h run =
    let k = turns_pay site i.moments i.words i.every i.turns run.end h run.run in
    replies_over site.config calls run.end.calls p k.0
    (asks_room i.moments i.words i.every i.turns site run.end run.run) run.flows k.1

pub questions_answered_over_sockets : QuestionsAnsweredOverSockets
questions_answered_over_sockets calls p site i run a b z t word every turn room from octets h turns arrival client asks whole tries rest =
    let g = questions_answered site site [] a b z t word every turn room from octets h no_run turns
    arrival client asks whole tries in
    let k = turns_pay site i.moments i.words i.every i.turns run.end h run.run in
    let once : RepliesOnce site.config run.end.calls =
    replies_from site.config run.end.calls k.0 k.1 in
    let more = calls_lead z run.end rest in
    let sent : SentAt run.end.calls g.place g.packet = (
      g.sent.0,
      subst (λ (cs : List PortCall). At cs g.place g.sent.0) (sym more.1)
          (at_front z.calls more.0 g.place g.sent.0 g.sent.1),
      g.sent.2,
    ) in
    let on = calls_lead b run.end
    (leads_both run.end (tries_lead (length site.config.upstreams) b z tries) rest) in
    let given = calls_of (turn.given ++ (turn.ticks ++ turn.sweep)) in
    let parts : run.end.calls ≡ a.calls ++ Received room from octets ∷ (given ++ on.0) =
    on.1 ∙ ap (λ (cs : List PortCall). cs ++ on.0) turn.calls
    ∙ append_assoc a.calls (turn.arrival ∷ given) on.0
    ∙ ap (λ (x : PortCall). a.calls ++ x ∷ (given ++ on.0)) arrival in
    subst (λ (x : PortCall). IsAnsweredOver run.flows.goes.steps (a.calls ++ x ∷ []) from octets)
    (sym arrival)
    (answered_over site.config calls run.end.calls p
    (asks_room i.moments i.words i.every i.turns site run.end run.run) run.flows once a.calls
    (given ++ on.0) g.place room from octets g.packet client parts g.later sent g.to g.replies)
