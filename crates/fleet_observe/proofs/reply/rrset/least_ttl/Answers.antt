use Rattle.std.proofs.Common.{◌<◌, ◌≤◌, ◌∙◌, length, take, sym, arith, rules}
use mathlib.Core.Bool.{false≢true}
use Rattle.std.proofs.lemmas.List.{take_more, take_all}
use Rattle.fleet_observe.proofs.Sets.{least_kept, least_more, least_all}
use Rattle.fleet_observe.proofs.reply.rrset.least_ttl.Goals as goal
use Rattle.fleet_observe.proofs.reply.rrset.least_ttl.Goals.{then-is_of_rrset, else-is_of_rrset}

pub loop-record-preserved : goal.loop-record-preserved
loop-record-preserved g c =
    let xs = c.args.section.now in let i = c.loop-record.record-index in
    let item = c.record-item.result in
    let within : i < length xs = omega arith in
    elim c.if-is_of_rrset.branch [
      | then-is_of_rrset w ↦ rw (w.least-is, take_more xs i item within, ← c.record-item.is)
          (least_more (take i xs) _ _ item c.loop-record.least _ c.loop-record.invariant
          (c.is_of_rrset.ensures.0 w.if-is_of_rrset.true) (search rules))
      | else-is_of_rrset w ↦ rw (w.least-is, take_more xs i item within, ← c.record-item.is)
          (least_kept (take i xs) _ _ item _ c.loop-record.invariant
          (λ b. false≢true (sym w.if-is_of_rrset.false ∙ c.is_of_rrset.ensures.1 b)))
    ]

pub returns : goal.returns
returns g c =
    let all : length c.args.section.now ≤ c.loop-record.record-index = omega arith in
    least_all _ _ _ _ c.requires.some
    (rw (take_all c.loop-record.record-index c.args.section.now all) at c.loop-record.invariant)
