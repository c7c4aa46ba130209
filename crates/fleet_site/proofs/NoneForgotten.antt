-- A reply that is awaited goes to each who waits for it.
-- Serves law `none_forgotten`.
use Rattle.std.proofs.Common.{◌≡◌, inl, inr, ℕ, max, List, refl, sym, ap, ◌∙◌, subst, arith}
use Rattle.fleet_name.specs.Places.{At, Has}
use Rattle.fleet_wire.specs.Message.{MessageData}
use Rattle.fleet_wire.specs.declared.header.Header.{Header}
use Rattle.fleet_wire.proofs.Lemmas.{one_reply}
use Rattle.fleet_observe.specs.Digest.{DigestData}
use Rattle.fleet_observe.specs.DigestOf.{IsServed, AsksWalk, IsWalkable, IsDigest}
use Rattle.fleet_observe.proofs.Lemmas.{meaning_sound, meaning_is}
use Rattle.fleet_pending.specs.Waiter.{WaiterData}
use Rattle.fleet_pending.specs.PendingData.{EntryData, Matches}
use Rattle.fleet_pending.specs.Waiting.{IsWaiting}
use Rattle.fleet_pending.specs.declared.addr.Addr.{Addr}
use Rattle.fleet_site.specs.OutcomeData.{OutcomeData}
use Rattle.fleet_site.specs.SiteModel.{SiteModel, IsLawfulModel, Effect}
use Rattle.fleet_site.specs.reply.Reply.{relay_to, Relays, Replied}
use Rattle.fleet_site.specs.server.Answered.{IsAwaited, RelayedAtOnce}
use Rattle.fleet_name.proofs.Lemmas.{at_same}
use Rattle.fleet_site.proofs.Answering.{at_front}
use Rattle.fleet_site.proofs.Changes.{has_map}

-- each who waits for an entry that is relayed gets it
relayed : (m : SiteModel) (t : ℕ) (w : WaiterData) (h : IsWaiting m.pending w) (g : DigestData)
    (i : ℕ) (e : EntryData) (x : DigestData) (d : Effect) → IsLawfulModel m
    → At m.pending.entries i e → e.id ≡ h.entry.id → x ≡ g → Relays m.pending t e x d
    → Has d.says.packets (relay_to g w)
relayed m t w h g i e x d lawful there same means relays =
    let place : i ≡ h.place =
    lawful.questions.pending.ids i h.place e h.entry there h.there same in
    let entry : h.entry ≡ e =
    at_same m.pending.entries i h.entry e
    (subst (λ (j : ℕ). At m.pending.entries j h.entry) (sym place) h.there) there in
    let waits : At e.waiters h.turn w =
    subst (λ (y : EntryData). At y.waiters h.turn w) entry h.waits in
    subst (λ (y : DigestData). Has d.says.packets (relay_to y w)) means
    (subst (λ (y : OutcomeData). Has y.packets (relay_to x w)) (sym relays.says)
    (has_map (relay_to x) e.waiters h.turn w waits))

replied : (m : SiteModel) (t : ℕ) (from : Addr) (octets : List ℕ) (w : WaiterData) (d : Effect)
    (h : IsWaiting m.pending w) (r : IsAwaited m h.entry from octets) → IsLawfulModel m
    → Replied m.pending t h.entry.upstream octets d → Has d.says.packets (relay_to r.digest w)
replied m t from octets w d h r lawful (inl short) =
    absurd (omega (arith, short.0, r.reads.query.counted.long))
replied m t from octets w d h r lawful (inr x) =
    let sound = meaning_sound r.message r.digest r.means in
    elim x.1 [
      | inl y ↦ absurd (y.0 (sym (ap (λ (z : Header). z.response) r.reads.query.header)
          ∙ sound.0.response))
      | inr y ↦ elim y.1 [
        | inl f ↦ absurd (f.0 (r.message, r.reads))
        | inr z ↦
            let same : z.1.0 ≡ r.message = one_reply octets z.1.0 r.message z.1.1 r.reads in
            elim z.1.2 [
              | inl u ↦ absurd (u.0 h.place h.entry h.there
                  (subst (λ (y : MessageData). Matches h.entry.upstream y.header.id y.question h.entry)
                  (sym same) r.matches))
              | inr u ↦ elim u.1 [
                | inl v ↦ absurd (v.0 (subst IsServed (sym same) sound.0))
                | inr v ↦ elim v.1 [
                  | inl b ↦ absurd (b.0.1
                      (subst (λ (y : MessageData). AsksWalk y → IsWalkable y) (sym same) sound.1
                      b.0.0))
                  | inr g ↦
                      let e = g.1.2.1.0 in
                      let matched = g.1.2.1.2 in
                      let id : e.id ≡ h.entry.id =
                      matched.0 ∙ ap (λ (y : MessageData). y.header.id) same ∙ sym r.matches.0 in
                      relayed m t w h r.digest g.1.2.0 e g.1.0 d lawful g.1.2.1.1 id
                      (meaning_is r.message g.1.0 r.digest
                      (subst (λ (y : MessageData). IsDigest y g.1.0) same g.1.1) r.means) g.1.2.1.3
                ]
              ]
            ]
      ]
    ]

pub relayed_at_once : RelayedAtOnce
relayed_at_once m n now from octets word o w lawful h r step =
    let d = step.0 in
    elim step.1 [
      | inr k ↦ absurd (k.0 (h.entry.upstream, r.upstream))
      | inl k ↦
          let us = m.upstreams in
          let place : k.1.0 ≡ h.entry.upstream =
          lawful.config.apart k.1.0 h.entry.upstream from from
          (at_front us m.peers k.1.0 from k.1.1)
          (at_front us m.peers h.entry.upstream from r.upstream) refl in
          subst (λ (y : OutcomeData). Has y.packets (relay_to r.digest w)) (sym step.2)
          (replied m (max m.clock now) from octets w d h r lawful
          (subst (λ (j : ℕ). Replied m.pending (max m.clock now) j octets d) place k.1.2))
    ]
