use Rattle.std.proofs.Common.{◌<◌, ◌≤◌, ◌∷◌, ◌∙◌, [], inl, inr, length, take, refl, ap, sym, arith}
use mathlib.Core.Bool.{false≢true}
use Rattle.fleet_wire.specs.Record.{RecordData}
use Rattle.fleet_observe.specs.DigestOf.{HasNs, owners_of, IsRepeated}
use Rattle.std.proofs.lemmas.List.{take_more, take_all}
use Rattle.fleet_observe.proofs.Lists.{has_at}
use Rattle.fleet_observe.proofs.Results.{if_err}
use Rattle.fleet_observe.proofs.Owners.{ns_in, owners_of-append, owners_new, owners_same, owner_known, owner_kept, each_more}
use Rattle.fleet_observe.proofs.reply.authority.ns_sets.Goals as goal
use Rattle.fleet_observe.proofs.reply.authority.ns_sets.Goals.{then-is_ns+then-not-owns+in_ok-set+in_ok-push, else-is_ns, else-is_ns-via-then-is_ns+else-not-owns, else-is_ns-via-else-is_ns}

pub loop-record-init : goal.loop-record-init
loop-record-init g c = rw c.new-sets.ensures.items
    (record { owners = refl; each = λ x h. absurd h })

pub rrset_at-requires : goal.rrset_at-requires
rrset_at-requires g c =
    let xs = c.args.authority.now in let i = c.loop-record.record-index in
    let item = c.record-item.result in
    let within : i < length xs = omega arith in
    rw (ap (λ (r : RecordData). r.name) c.record.view_is) (
      item.rdata,
      ns_in xs c.args.name.now
          item (has_at xs i item within c.record-item.is) (c.is_ns.ensures.0 c.if-is_ns.true),
    )

pub loop-record-preserved : goal.loop-record-preserved
loop-record-preserved g c =
    let xs = c.args.authority.now in let i = c.loop-record.record-index in
    let item = c.record-item.result in
    let q = c.args.name.now in let sets = c.loop-record.sets.items in
    let inv = c.loop-record.invariant in
    let within : i < length xs = omega arith in
    let seen = take i xs in let name = ap (λ (r : RecordData). r.name) c.record.view_is in
    elim c.if-is_ns.branch [
      | then-is_ns+then-not-owns+in_ok-set+in_ok-push w ↦
          let ns = c.is_ns.ensures.0 w.if-is_ns.true in
          let new : ¬ IsRepeated q seen item = λ r.
          elim (owner_kept q [] seen (owners_of sets) r.earlier inv.owners r.member r.ns) [
            | inl listed ↦ false≢true (sym w.if-not-owns.true ∙ w.owns.ensures.1
                (rw (w.deref.ensures.value, name, ← r.same) listed))
            | inr before ↦ before.member
          ] in
          rw (
            w.sets-is,
            w.in_ok-push.ensures.items,
            take_more xs i item within,
            ←
                c.record-item.is,
            owners_of-append sets (w.in_ok-set.set ∷ []),
          )
          (record {
            owners = rw (w.in_ok-set.ensures.name, name)
                (owners_new q [] seen (owners_of sets) item inv.owners ns new);
            each = each_more _ sets _ _ inv.each w.in_ok-set.ensures;
          })
      | else-is_ns w ↦
          rw (w.sets-is, take_more xs i item within, ← c.record-item.is)
          (record {
            owners = owners_same q [] seen (owners_of sets) item inv.owners
                (elim w.else-is_ns.branch [
                  | else-is_ns-via-then-is_ns+else-not-owns w' ↦
                      let k = owner_known q [] seen (owners_of sets) item.name inv.owners
                      (rw (w'.deref.ensures.value, name) at (w'.owns.ensures.0
                      w'.if-not-owns.false)) in
                      inr (record { earlier = k.0; member = k.1; ns = k.2; same = k.3 })
                  | else-is_ns-via-else-is_ns w' ↦
                      inl (λ h. false≢true (sym w'.if-is_ns.false ∙ c.is_ns.ensures.1 h))
                ]);
            each = inv.each;
          })
    ]

pub returns-in_err-set-clause-memory : goal.returns-in_err-set-clause-memory
returns-in_err-set-clause-memory g c =
    let xs = c.args.authority.now in let i = c.loop-record.record-index in
    let item = c.record-item.result in
    let there : i < length xs = omega arith in
    if_err (HasNs c.args.name.now xs) _ (
      item,
      has_at xs i item there c.record-item.is,
      c.is_ns.ensures.0 c.if-is_ns.true,
    )

pub returns-in_err-push-clause-memory : goal.returns-in_err-push-clause-memory
returns-in_err-push-clause-memory g c =
    let xs = c.args.authority.now in let i = c.loop-record.record-index in
    let item = c.record-item.result in
    let there : i < length xs = omega arith in
    if_err (HasNs c.args.name.now xs) _ (
      item,
      has_at xs i item there c.record-item.is,
      c.is_ns.ensures.0 c.if-is_ns.true,
    )

pub returns-clause-sets : goal.returns-clause-sets
returns-clause-sets g c =
    let all : length c.args.authority.now ≤ c.loop-record.record-index = omega arith in
    record {
      owners = rw (take_all c.loop-record.record-index c.args.authority.now
          all) at c.loop-record.invariant.owners;
      each = c.loop-record.invariant.each;
    }
