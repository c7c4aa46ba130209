-- What clients read in what servers send.
-- Serves the laws `fresh`, `withdrawn`.
use Rattle.std.proofs.Common.{ℕ, zero, suc, inl, inr, List, [], ◌∷◌, ap, subst, length, Some, Result, Ok, Err}
use Rattle.fleet_name.specs.Places.{At, Has}
use Rattle.fleet_name.proofs.Lemmas.{has_either}
use Rattle.fleet_observe.specs.Observation.{AreObservations}
use Rattle.fleet_pending.specs.declared.addr.Addr.{Addr}
use Rattle.fleet_site.specs.ConfigData.{IsAmong}
use Rattle.fleet_site.specs.OutcomeData.{OutcomeData}
use Rattle.fleet_site.specs.PacketData.{PacketData}
use Rattle.fleet_site.specs.SiteModel.{SiteModel}
use Rattle.fleet_site.specs.Step.{Call, datagram, tick, frame, learn, flush}
use Rattle.fleet_site.specs.Step.{Step as SiteStep}
use Rattle.fleet_site.specs.server.Sending.{packets_of, to_each, to_peers}
use Rattle.fleet_site.specs.server.Turn.{TurnStep, calling, sweeping, TurnStepSays}
use Rattle.fleet_site.specs.declared.outcome.SiteFault.{SiteFault}
use Rattle.fleet_world.specs.FleetModel.{Replica, FleetModel, opening, numbers_from}
use Rattle.fleet_world.specs.Fresh.{OfRecords, WhereAnswered, RelayedAreOfReply, OthersSayNothing}
use Rattle.fleet_world.specs.Sent.{SaysOnly, WhereSent}
use Rattle.fleet_world.specs.Servers.{event_of, events_of, results_of}
use Rattle.fleet_world.specs.Step.{Step, stepped_of}
use Rattle.fleet_world.proofs.Servers.{calls_of_step, done, event_becomes, event_site}

-- whom a frame goes to is a peer
to_peer : (octets : List ℕ) (peers : List Addr) (p : PacketData) → Has (to_each octets peers) p
    → IsAmong peers p.to
to_peer octets [] p h = absurd h
to_peer octets (x ∷ peers) p (inl e) = (zero, ap (λ (y : PacketData). Some y.to) e)
to_peer octets (x ∷ peers) p (inr h) = let k = to_peer octets peers p h in (suc k.0, k.1)

to_some : (peers : List Addr) (frames : List (List ℕ)) (p : PacketData)
    → Has (to_peers peers frames) p → IsAmong peers p.to
to_some peers [] p h = absurd h
to_some peers (octets ∷ frames) p h =
    elim (has_either (to_each octets peers) (to_peers peers frames) p h) [
      | inl k ↦ to_peer octets peers p k
      | inr k ↦ to_some peers frames p k
    ]

-- a call that was done whole is a step of the fleet
as_step : (A : Type 0) (m : FleetModel) (i : ℕ) (a : Replica) → At m.sites i a → (c : Call)
    (o : OutcomeData) (next : SiteModel) → SiteStep a.site c (Ok o) next
    → AreObservations next.taken
    → (n : FleetModel)
    × Step {A = A} m (event_of i c) (Ok (stepped_of o (numbers_from (length m.frames) (length o.frames)))) n
as_step A m i a at c o next says lawful =
    let b = calls_of_step c (Ok o) a next says lawful in
    let z = done m i (event_of i c) o a b.0 next (event_site A i c) at
    (event_becomes A m i c (Ok o) a b.0 b.1) b.2 in
    (z.0.next, subst (λ r. Step m (event_of i c) r z.0.next) z.1 z.0.step)

module _ (A : Type 0) (P : OfRecords A) (answered : WhereAnswered A P)
    (relayed : RelayedAreOfReply A) (others : OthersSayNothing A) where
  pub sent : WhereSent A P
  sent configs before m run own x a at next says lawful p has other =
      go x.action.step x.action.answer says has
    where
      of_call : (c : Call) (o : OutcomeData) → SiteStep a.site c (Ok o) next → Has o.packets p
          → SaysOnly A (P (opening configs) (events_of before) (results_of 0 before) m run a)
          m x.site a (calling c) p.octets
      of_call (datagram now from octets word) o is k =
          let s = as_step A m x.site a at (datagram now from octets word) o next is lawful in (
            λ yes. relayed configs (events_of before) (results_of 0 before) m run x.site now from word
                octets _ s.0 s.1 a at yes p k,
            λ no. answered configs (events_of before) (results_of 0 before) m run own x.site now from
                word octets _ s.0 s.1 a at no p k,
          )
      of_call (tick now) o is k =
          let s = as_step A m x.site a at (tick now) o next is lawful in
          others m _ _ s.0 s.1 (λ f. f) p k
      of_call (frame now octets) o is k =
          let s = as_step A m x.site a at (frame now octets) o next is lawful in
          others m _ _ s.0 s.1 (λ f. f) p k
      of_call (learn now octets) o is k =
          let s = as_step A m x.site a at (learn now octets) o next is lawful in
          others m _ _ s.0 s.1 (λ f. f) p k
      of_call (flush now name) o is k =
          let s = as_step A m x.site a at (flush now name) o next is lawful in
          others m _ _ s.0 s.1 (λ f. f) p k

      go : (s : TurnStep) (r : Result OutcomeData SiteFault) → TurnStepSays a.site s r next
          → Has (packets_of a.site.peers r) p
          → SaysOnly A (P (opening configs) (events_of before) (results_of 0 before) m run a)
          m x.site a s p.octets
      go (calling c) (Ok o) is h =
          elim (has_either o.packets (to_peers a.site.peers o.frames) p h) [
            | inl k ↦ of_call c o is k
            | inr k ↦ absurd (other (to_some a.site.peers o.frames p k))
          ]
      go (calling c) (Err f) is h = absurd h
      go sweeping (Ok o) is h =
          elim (has_either o.packets (to_peers a.site.peers o.frames) p h) [
            | inl k ↦
                absurd (subst (λ ps. Has ps p) (ap (λ (y : OutcomeData). y.packets) is.2) k)
            | inr k ↦ absurd (other (to_some a.site.peers o.frames p k))
          ]
      go sweeping (Err f) is h = absurd h
