use Rattle.std.proofs.Common.{◌<◌, ◌≤◌, ◌∙◌, length, take, sym, ap, refl, arith}
use mathlib.Core.Bool.{false≢true}
use Rattle.std.proofs.lemmas.List.{take_more, take_all}
use Rattle.fleet_name.proofs.Lemmas.{labels_of-spelled}
use Rattle.fleet_wire.specs.Record.{RecordData}
use Rattle.fleet_observe.proofs.Spelling.{spells}
use Rattle.fleet_observe.proofs.Sets.{those_none, those_kept, those_more}
use Rattle.fleet_observe.proofs.reply.rrset.rrset_at.Goals as goal
use Rattle.fleet_observe.proofs.reply.rrset.rrset_at.Goals.{then-is_of_rrset+in_ok-add, else-is_of_rrset}

pub loop-record-init : goal.loop-record-init
loop-record-init g c = those_none _ _ _ c.new-rdatas.ensures.items

pub is_of_rrset-requires : goal.is_of_rrset-requires
is_of_rrset-requires g c = spells c.octets-name.result.now c.args.owner.now c.octets-name.ensures.named
    c.octets-name.ensures.octets

pub loop-record-preserved : goal.loop-record-preserved
loop-record-preserved g c =
    let xs = c.args.section.now in let i = c.loop-record.record-index in
    let item = c.record-item.result in
    let within : i < length xs = omega arith in
    let is = labels_of-spelled c.octets-name.result.now c.args.owner.now
    c.octets-name.ensures.named.labels c.octets-name.ensures.octets in
    let b = rw is at c.is_of_rrset.ensures in
    elim c.if-is_of_rrset.branch [
      | then-is_of_rrset+in_ok-add w ↦ rw (w.rdatas-is, take_more xs i item within, ← c.record-item.is)
          (those_more (take i xs) _ _ item c.loop-record.rdatas.items _ c.loop-record.invariant
          (b.0 w.if-is_of_rrset.true) w.in_ok-add.ensures.ascending
          (rw (
            w.as_slice.ensures,
            ap (λ (r : RecordData). r.rdata)
                c.record.view_is,
          ) at w.in_ok-add.ensures.members))
      | else-is_of_rrset w ↦ rw (w.rdatas-is, take_more xs i item within, ← c.record-item.is)
          (those_kept (take i xs) _ _ item _ c.loop-record.invariant
          (λ h. false≢true (sym w.if-is_of_rrset.false ∙ b.1 h)))
    ]

pub least_ttl-requires-clause-spelled : goal.least_ttl-requires-clause-spelled
least_ttl-requires-clause-spelled g c = spells c.octets-name.result.now c.args.owner.now
    c.octets-name.ensures.named c.octets-name.ensures.octets

pub least_ttl-requires-clause-some : goal.least_ttl-requires-clause-some
least_ttl-requires-clause-some g c =
    let is = labels_of-spelled c.octets-name.result.now c.args.owner.now
    c.octets-name.ensures.named.labels c.octets-name.ensures.octets in
    rw is c.requires

pub returns : goal.returns
returns g c =
    let is = labels_of-spelled c.octets-name.result.now c.args.owner.now
    c.octets-name.ensures.named.labels c.octets-name.ensures.octets in
    let all : length c.args.section.now ≤ c.loop-record.record-index = omega arith in
    let those = rw (take_all c.loop-record.record-index c.args.section.now
    all) at c.loop-record.invariant in
    record {
      name = c.in_ok-try_clone.ensures;
      rtype = refl;
      ttl = rw is at c.least_ttl.ensures;
      ascending = rw c.new.ensures those.ascending;
      of_section = rw c.new.ensures those.of_section;
      whole = rw c.new.ensures those.whole;
    }
