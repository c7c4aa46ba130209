use Rattle.std.proofs.Common.{subst, sym, arith}
use Rattle.fleet_pending.specs.FreeId.{IsFirstFree}
use Rattle.fleet_pending.specs.PendingData.{PendingData, IsPendingData}
use Rattle.fleet_pending.specs.Asking.{ask_result}
use Rattle.fleet_pending.proofs.Table.{opens_new, asks_keeps}
use Rattle.fleet_pending.proofs.Soonest.{soonest_opened}
use Rattle.fleet_pending.proofs.Unchanged.{unchanged}
use Rattle.fleet_pending.proofs.pending.Pending.open.Goals as goal

pub returns-clause-asks : goal.returns-clause-asks
returns-clause-asks g c = λ word is.
    let free = subst (λ (o : PendingData). IsFirstFree word o.entries c.args.id)
    (sym c.self.view_is) is.2 in
    opens_new _ c.args.now word c.args.self.now c.self.inside.entries.items
    c.enter.new.entries.items c.args.waiter (ask_result c.enter.result) c.self.view_is
    is.0 (c.enter.ensures.opens word free)

pub invariant_of-self : goal.invariant_of-self
invariant_of-self g c =
    let r = c.requires in
    let free = subst (λ (o : PendingData). IsFirstFree r.0 o.entries c.args.id)
    (sym c.self.view_is) r.1.2 in (
      asks_keeps _ _ _ _ _ _ (subst IsPendingData c.self.view_is c.self.invariant.0)
          (returns-clause-asks g c r.0 r.1),
      soonest_opened c.self.inside.soonest c.min-self-inside.result c.args.now r.0
          c.self.inside.entries.items c.enter.new.entries.items _ (ask_result c.enter.result)
          c.self.invariant.1 (omega (arith, c.min-self-inside.ensures))
          (omega (arith, c.min-self-inside.ensures, c.value.ensures.value))
          (c.enter.ensures.opens r.0 free),
    )

pub returns-clause-unchanged : goal.returns-clause-unchanged
returns-clause-unchanged g c =
    let r = c.requires in
    unchanged _ _ _ _ _ c.enter.result (returns-clause-asks g c r.0 r.1)

pub returns-clause-lawful : goal.returns-clause-lawful
returns-clause-lawful g c = (invariant_of-self g c).0
