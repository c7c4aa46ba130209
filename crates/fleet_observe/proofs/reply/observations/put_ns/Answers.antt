use Rattle.std.proofs.Common.{◌<◌, ◌≤◌, length, take, arith, refl, append_assoc}
use Rattle.std.proofs.lemmas.List.{take_more, take_all}
use Rattle.fleet_observe.proofs.Lists.{has_at}
use Rattle.fleet_observe.proofs.Kept.{ns_observations-push, ns_some}
use Rattle.fleet_observe.proofs.Results.{if_err}
use Rattle.fleet_observe.proofs.reply.observations.put_ns.Goals as goal

pub put_set-requires-clause-lawful : goal.put_set-requires-clause-lawful
put_set-requires-clause-lawful g c =
    let xs = c.ns-set-items.result.now in let i = c.loop-set.set-index in
    let item = c.set-item.result in
    let within : i < length xs = omega arith in
    let is = c.ns-set-items.ensures in
    is.lawful.ns item (rw (← is.ns) (has_at xs i item within c.set-item.is))

pub loop-set-preserved : goal.loop-set-preserved
loop-set-preserved g c =
    let xs = c.ns-set-items.result.now in let i = c.loop-set.set-index in
    let item = c.set-item.result in
    let within : i < length xs = omega arith in
    rw (
      take_more xs i item within,
      ← c.set-item.is,
      ns_observations-push c.args.stamp (take i xs)
          item,
      c.in_ok-put_set.ensures.added,
      c.loop-set.invariant,
      append_assoc,
    ) refl

pub returns-in_err-put_set-clause-memory : goal.returns-in_err-put_set-clause-memory
returns-in_err-put_set-clause-memory g c =
    let xs = c.ns-set-items.result.now in let i = c.loop-set.set-index in
    let item = c.set-item.result in
    let within : i < length xs = omega arith in
    let there = rw c.ns-set-items.ensures.ns at (has_at xs i item within c.set-item.is) in
    if_err _ _ (ns_some c.args.stamp c.args.digest.now.ns item there
    c.in_err-put_set.ensures.memory)

pub returns-clause-added : goal.returns-clause-added
returns-clause-added g c =
    let all : length c.ns-set-items.result.now ≤ c.loop-set.set-index = omega arith in
    rw (
      take_all c.loop-set.set-index c.ns-set-items.result.now all,
      c.ns-set-items.ensures.ns,
    ) at c.loop-set.invariant
