use Rattle.std.proofs.Common.{◌<◌, ◌≤◌, ◌∙◌, inl, inr, length, take, ap, subst, arith}
use Rattle.fleet_wire.specs.Record.{RecordData}
use Rattle.std.proofs.lemmas.List.{take_more, take_all}
use Rattle.fleet_observe.specs.DigestOf.{IsSoaRecord}
use Rattle.fleet_observe.proofs.Lists.{has_push}
use Rattle.fleet_observe.proofs.Soas.{first_at}
use Rattle.fleet_observe.proofs.reply.denial.first_soa.Goals as goal
use Rattle.fleet_observe.proofs.reply.denial.first_soa.Goals.{else-record-eq-IN-via-then-record-eq-IN+else-record-eq-SOA, else-record-eq-IN-via-else-record-eq-IN}

pub returns-then-record-eq-SOA : goal.returns-then-record-eq-SOA
returns-then-record-eq-SOA g c =
    let xs = c.args.authority.now in let i = c.loop-record.record-index in
    let within : i < length xs = omega arith in
    first_at xs i c.record-item.result within c.record-item.is c.loop-record.invariant
    (subst IsSoaRecord c.record.view_is (record {
      class = c.if-record-eq-IN.true;
      rtype = c.if-record-eq-SOA.true;
    }))

pub loop-record-preserved : goal.loop-record-preserved
loop-record-preserved g c r h soa =
    let xs = c.args.authority.now in let i = c.loop-record.record-index in
    let item = c.record-item.result in let within : i < length xs = omega arith in
    elim (has_push (take i xs) item r (rw (take_more xs i item within, ← c.record-item.is) at h)) [
      | inl a ↦ c.loop-record.invariant r a soa
      | inr e ↦ elim c.else-record-eq-IN.branch [
        | else-record-eq-IN-via-then-record-eq-IN+else-record-eq-SOA w ↦ w.if-record-eq-SOA.false
            (ap (λ (x : RecordData). x.rtype) (c.record.view_is ∙ e) ∙ soa.rtype)
        | else-record-eq-IN-via-else-record-eq-IN w ↦ w.if-record-eq-IN.false
            (ap (λ (x : RecordData). x.class) (c.record.view_is ∙ e) ∙ soa.class)
      ]
    ]

pub returns : goal.returns
returns g c =
    let all : length c.args.authority.now ≤ c.loop-record.record-index = omega arith in
    rw (take_all c.loop-record.record-index c.args.authority.now all) at c.loop-record.invariant
