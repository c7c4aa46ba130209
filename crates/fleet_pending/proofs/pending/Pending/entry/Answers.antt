use Rattle.fleet_pending.specs.PendingData.{UsesId}
use Rattle.fleet_pending.proofs.Table.{read_at}
use Rattle.fleet_pending.proofs.pending.Pending.entry.Goals as goal

pub returns-clause-is_open : goal.returns-clause-is_open
returns-clause-is_open g c =
    let ids = UsesId c.args.id in
    let k = read_at ids c.as_slice.ensures.value c.in_ok-i.ensures c.index.ensures in
    c.self.invariant.0.open_ones c.in_ok-i.i _ k.there
