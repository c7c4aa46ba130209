use Rattle.std.proofs.Common.{◌≡◌, true, false, refl}
use Rattle.fleet_pending.specs.PendingData.{UsesId}
use Rattle.fleet_pending.proofs.Table.{read_at, finds_none, finds_some}
use Rattle.fleet_pending.proofs.pending.Pending.find.Goals as goal

pub returns-then-matches-clause-finds : goal.returns-then-matches-clause-finds
returns-then-matches-clause-finds g c =
    let ids = UsesId c.args.id in
    let q = c.args.question.now in
    let k = read_at ids c.as_slice.ensures.value c.in_ok-i.ensures c.index-entry.ensures in
    let m = c.if-matches.ensures.0 refl in
    finds_some _ c.args.upstream c.args.id c.in_ok-i.i _ _ q _ c.self.view_is k m

pub returns-then-matches-clause-is_open : goal.returns-then-matches-clause-is_open
returns-then-matches-clause-is_open g c =
    let ids = UsesId c.args.id in
    let k = read_at ids c.as_slice.ensures.value c.in_ok-i.ensures c.index-entry.ensures in
    c.self.invariant.0.open_ones c.in_ok-i.i _ k.there

pub returns-else-matches-clause-finds : goal.returns-else-matches-clause-finds
returns-else-matches-clause-finds g c =
    let ids = UsesId c.args.id in
    let q = c.args.question.now in
    let k = read_at ids c.as_slice.ensures.value c.in_ok-i.ensures c.index-entry.ensures in
    finds_none _ c.args.upstream c.args.id c.in_ok-i.i _ _ q _ c.self.view_is c.self.invariant.0 k
    (λ p. let z : false ≡ true = c.if-matches.ensures.1 p in cc)
