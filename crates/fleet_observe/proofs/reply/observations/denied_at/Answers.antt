use Rattle.std.proofs.Common.{◌<◌, length, take, ap, arith}
use Rattle.fleet_name.proofs.Lemmas.{labels_of-spelled}
use Rattle.fleet_observe.specs.RrSet.{RrSetData}
use Rattle.fleet_observe.proofs.Spelling.{spells}
use Rattle.std.proofs.lemmas.List.{take_more}
use Rattle.fleet_observe.proofs.Lists.{has_at}
use Rattle.fleet_observe.proofs.Kept.{denied_by-push, labels_of-first_or, link_spelled}
use Rattle.fleet_observe.proofs.reply.observations.denied_at.Goals as goal

pub loop-link-init : goal.loop-link-init
loop-link-init g c =
    let o = c.octets-at.ensures in
    record {
      name = labels_of-spelled c.octets-at.result.now c.args.name.now o.named.labels
          o.octets;
      spelled = spells c.octets-at.result.now c.args.name.now o.named o.octets;
    }

pub loop-link-preserved : goal.loop-link-preserved
loop-link-preserved g c =
    let xs = c.args.chain.now in let i = c.loop-link.link-index in let item = c.link-item.result in
    let within : i < length xs = omega arith in
    let inv = c.loop-link.invariant in
    let link = c.requires item (has_at xs i item within c.link-item.is) in
    rw (c.first_of-at.ensures, c.as_slice.ensures.value, ap (λ (x : RrSetData). x.rdatas) c.link.view_is)
    (record {
      name = rw (
        take_more xs i item within,
        ← c.link-item.is,
        denied_by-push c.args.name.now
            (take i xs) item,
        ← inv.name,
      ) (labels_of-first_or c.loop-link.at.now item.rdatas);
      spelled = link_spelled c.loop-link.at.now item inv.spelled link;
    })
