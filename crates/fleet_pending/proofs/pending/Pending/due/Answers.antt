use Rattle.std.proofs.Common.{◌≡◌, ℕ, ◌<◌, ap, arith, subst}
use Rattle.fleet_pending.specs.PendingData.{EntryData, PendingData}
use Rattle.fleet_pending.specs.Due.{NoneDue}
use Rattle.fleet_pending.proofs.Soonest.{none_due}
use Rattle.fleet_pending.proofs.DueCount.{none_at, first_counted}
use Rattle.fleet_pending.proofs.FirstDue.{due_first, due_none, first_open, first_asks}
use Rattle.fleet_pending.proofs.pending.Pending.due.Goals as goal

pub returns-then-value-self-clause-count : goal.returns-then-value-self-clause-count
returns-then-value-self-clause-count g c =
    let now = c.args.now in
    let sooner : now < c.self.inside.soonest = omega (arith, c.value.ensures.value, c.if-value-self.true) in
    none_at c.args.self.now now
    (subst (λ (o : PendingData). NoneDue o.entries now) c.self.view_is
    (none_due c.self.inside.entries.items c.self.inside.soonest now c.self.invariant.1 sooner))

pub returns-in_err-entry-clause-dues : goal.returns-in_err-entry-clause-dues
returns-in_err-entry-clause-dues g c =
    rw c.from_residual.ensures
    (due_none c.args.self.now c.self.inside.upstreams c.value-2.result c.args.now
    c.self.inside.entries.items c.as_slice.result.now c.self.view_is c.as_slice.ensures.value
    c.value-2.ensures.value c.in_err-entry.ensures)

pub returns-in_err-entry-clause-count : goal.returns-in_err-entry-clause-count
returns-in_err-entry-clause-count g c =
    let none = due_none c.args.self.now c.self.inside.upstreams c.value-2.result c.args.now
    c.self.inside.entries.items c.as_slice.result.now c.self.view_is c.as_slice.ensures.value
    c.value-2.ensures.value c.in_err-entry.ensures in
    rw c.from_residual.ensures (none_at c.args.self.now c.args.now none)

pub overflow_add-upstream : goal.overflow_add-upstream
overflow_add-upstream g c =
    let e = c.in_ok-entry.entry.now in
    let same : c.entry.inside.upstream ≡ e.upstream =
    ap {B = ℕ} (λ (x : EntryData). x.upstream) c.entry.view_is in
    let u = first_asks c.self.inside.upstreams c.value-2.result c.self.inside.entries.items
    c.as_slice.result.now e c.self.invariant.0 c.as_slice.ensures.value c.in_ok-entry.ensures in
    omega (arith, same, u, c.self.invariant.0.upstreams)

pub returns-then-upstream-self-clause-is_open : goal.returns-then-upstream-self-clause-is_open
returns-then-upstream-self-clause-is_open g c =
    first_open c.self.inside.upstreams c.value-2.result c.self.inside.entries.items
    c.as_slice.result.now c.in_ok-entry.entry.now c.self.invariant.0 c.as_slice.ensures.value
    c.in_ok-entry.ensures

pub returns-then-upstream-self-clause-count : goal.returns-then-upstream-self-clause-count
returns-then-upstream-self-clause-count g c =
    let first = due_first c.args.self.now c.self.inside.upstreams c.value-2.result c.args.now
    c.self.inside.entries.items c.as_slice.result.now c.in_ok-entry.entry.now c.self.view_is
    c.as_slice.ensures.value c.value-2.ensures.value c.in_ok-entry.ensures in
    first_counted c.args.self.now c.args.now c.in_ok-entry.entry.now first

pub returns-else-upstream-self-clause-is_open : goal.returns-else-upstream-self-clause-is_open
returns-else-upstream-self-clause-is_open g c =
    first_open c.self.inside.upstreams c.value-2.result c.self.inside.entries.items
    c.as_slice.result.now c.in_ok-entry.entry.now c.self.invariant.0 c.as_slice.ensures.value
    c.in_ok-entry.ensures

pub returns-else-upstream-self-clause-count : goal.returns-else-upstream-self-clause-count
returns-else-upstream-self-clause-count g c =
    let first = due_first c.args.self.now c.self.inside.upstreams c.value-2.result c.args.now
    c.self.inside.entries.items c.as_slice.result.now c.in_ok-entry.entry.now c.self.view_is
    c.as_slice.ensures.value c.value-2.ensures.value c.in_ok-entry.ensures in
    first_counted c.args.self.now c.args.now c.in_ok-entry.entry.now first
