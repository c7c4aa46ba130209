use Rattle.std.proofs.Common.{◌<◌, ◌≤◌, length, take, ap, arith, refl, append_assoc}
use Rattle.std.proofs.lemmas.List.{take_more, take_all}
use Rattle.fleet_observe.specs.RrSet.{RrSetData}
use Rattle.fleet_observe.proofs.Lists.{has_at}
use Rattle.fleet_observe.proofs.Kept.{link_observations-push, link_some}
use Rattle.fleet_observe.proofs.Results.{if_err}
use Rattle.fleet_observe.proofs.reply.observations.put_links.Goals as goal

pub put_set-requires-clause-lawful : goal.put_set-requires-clause-lawful
put_set-requires-clause-lawful g c =
    let xs = c.chain-link-items.result.now in let i = c.loop-link.link-index in
    let item = c.link-item.result in
    let within : i < length xs = omega arith in
    let is = c.chain-link-items.ensures in
    (is.lawful.chain item (rw (← is.chain) (has_at xs i item within c.link-item.is))).set

pub loop-link-preserved : goal.loop-link-preserved
loop-link-preserved g c =
    let xs = c.chain-link-items.result.now in let i = c.loop-link.link-index in
    let item = c.link-item.result in
    let within : i < length xs = omega arith in
    rw (
      take_more xs i item within,
      ← c.link-item.is,
      link_observations-push c.args.digest.now.aa
          c.args.digest.now.name c.args.stamp (take i xs) item,
      c.in_ok-put_set.ensures.added,
      c.rank_of-rank.ensures.rank,
      c.name-name.ensures.name,
      c.aa-aa.ensures.aa,
      ap (λ (x : RrSetData). x.name) c.link.view_is,
      c.loop-link.invariant,
      append_assoc,
    ) refl

pub returns-in_err-put_set-clause-memory : goal.returns-in_err-put_set-clause-memory
returns-in_err-put_set-clause-memory g c =
    let xs = c.chain-link-items.result.now in let i = c.loop-link.link-index in
    let item = c.link-item.result in
    let within : i < length xs = omega arith in
    let d = c.args.digest.now in
    let there = rw c.chain-link-items.ensures.chain at (has_at xs i item within c.link-item.is) in
    let some = rw (
      c.rank_of-rank.ensures.rank,
      c.name-name.ensures.name,
      c.aa-aa.ensures.aa,
      ap (λ (x : RrSetData). x.name) c.link.view_is,
    ) at c.in_err-put_set.ensures.memory in
    if_err _ _ (link_some d.aa d.name c.args.stamp d.chain item there some)

pub returns-clause-added : goal.returns-clause-added
returns-clause-added g c =
    let all : length c.chain-link-items.result.now ≤ c.loop-link.link-index = omega arith in
    rw (
      take_all c.loop-link.link-index c.chain-link-items.result.now all,
      c.chain-link-items.ensures.chain,
    ) at c.loop-link.invariant
