use Rattle.std.proofs.Common.{refl, ap, arith, subst}
use Rattle.fleet_pending.specs.PendingData.{UsesId, IsPendingData}
use Rattle.fleet_pending.proofs.Soonest.{soonest_moved}
use Rattle.fleet_pending.proofs.Table.{read_at, advances, advance_keeps, stays, next_below}
use Rattle.fleet_pending.proofs.pending.Pending.advance.Goals as goal

pub move_on-requires : goal.move_on-requires
move_on-requires g c =
    let ids = UsesId c.args.id in
    let k = read_at ids c.as_slice.ensures.value c.in-Some.ensures c.index.ensures in
    let m = read_at ids c.as_slice.ensures.value c.in-Some.ensures c.index_mut.ensures.value in
    let n = next_below _ c.args.id c.in-Some.i _ _ _ _ c.behind-self.view_is k m
    c.if-next-self.true in
    omega (arith, n, c.self.invariant.0.upstreams)

pub invariant_of-self : goal.invariant_of-self
invariant_of-self g c =
    let ids = UsesId c.args.id in
    let k = read_at ids c.as_slice.ensures.value c.in-Some.ensures c.index.ensures in
    let m = read_at ids c.as_slice.ensures.value c.in-Some.ensures c.index_mut.ensures.value in (
      advance_keeps _ _ c.args.id c.args.now c.self.invariant.0
          (advances _ _ c.in-Some.i _ _ _ _ _ _ c.move_on.new.entry refl c.behind-self.view_is k m
          c.if-next-self.true c.move_on.ensures),
      soonest_moved c.self.inside.soonest _ c.in-Some.i c.args.now c.self.inside.entries.items
          c.move_on.new.entry c.self.invariant.1 (omega (arith, c.min-self-inside.ensures))
          (omega (arith, c.min-self-inside.ensures, c.value.ensures.value)) (ap (λ e. e.deadline) c.move_on.ensures),
    )

pub returns-then-next-self-clause-advances : goal.returns-then-next-self-clause-advances
returns-then-next-self-clause-advances g c =
    let ids = UsesId c.args.id in
    let k = read_at ids c.as_slice.ensures.value c.in-Some.ensures c.index.ensures in
    let m = read_at ids c.as_slice.ensures.value c.in-Some.ensures c.index_mut.ensures.value in
    advances _ c.args.id c.in-Some.i c.args.now _ _ _ _ _ c.move_on.new.entry c.self.view_is
    c.behind-self.view_is k m c.if-next-self.true c.move_on.ensures

pub returns-then-next-self-clause-lawful : goal.returns-then-next-self-clause-lawful
returns-then-next-self-clause-lawful g c =
    advance_keeps _ _ _ _ (subst IsPendingData c.self.view_is c.self.invariant.0)
    (returns-then-next-self-clause-advances g c)

pub returns-else-next-self-clause-advances : goal.returns-else-next-self-clause-advances
returns-else-next-self-clause-advances g c =
    let ids = UsesId c.args.id in
    let k = read_at ids c.as_slice.ensures.value c.in-Some.ensures c.index.ensures in
    let s = stays _ c.args.id c.in-Some.i _ _ _ _ c.self.view_is c.behind-self.view_is
    c.self.invariant.0 k c.if-next-self.false in
    (s, refl)
