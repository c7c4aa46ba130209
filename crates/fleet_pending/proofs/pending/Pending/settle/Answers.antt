use Rattle.fleet_pending.specs.PendingData.{UsesId}
use Rattle.fleet_pending.proofs.Soonest.{soonest_removed}
use Rattle.fleet_pending.proofs.Table.{read_at, settles_at, removal_keeps}
use Rattle.fleet_pending.proofs.pending.Pending.settle.Goals as goal

pub invariant_of-self : goal.invariant_of-self
invariant_of-self g c =
    let ids = UsesId c.args.id in
    let k = read_at ids c.as_slice.ensures.value c.in_ok-i.ensures c.remove.ensures.value in (
      removal_keeps _ c.args.id c.in_ok-i.i _ _ _ c.self.invariant.0 k c.remove.ensures.items,
      soonest_removed c.self.inside.soonest c.in_ok-i.i c.self.inside.entries.items _
          c.self.invariant.1 c.remove.ensures.items,
    )

pub returns-clause-settles : goal.returns-clause-settles
returns-clause-settles g c =
    let ids = UsesId c.args.id in
    let k = read_at ids c.as_slice.ensures.value c.in_ok-i.ensures c.remove.ensures.value in
    settles_at _ c.args.id c.in_ok-i.i _ _ _ _ c.self.view_is k c.remove.ensures.items

pub returns-clause-is_open : goal.returns-clause-is_open
returns-clause-is_open g c =
    let ids = UsesId c.args.id in
    let k = read_at ids c.as_slice.ensures.value c.in_ok-i.ensures c.remove.ensures.value in
    c.self.invariant.0.open_ones c.in_ok-i.i _ k.there

pub returns-clause-lawful : goal.returns-clause-lawful
returns-clause-lawful g c =
    let ids = UsesId c.args.id in
    let k = read_at ids c.as_slice.ensures.value c.in_ok-i.ensures c.remove.ensures.value in
    removal_keeps _ c.args.id c.in_ok-i.i _ _ _ c.self.invariant.0 k c.remove.ensures.items
