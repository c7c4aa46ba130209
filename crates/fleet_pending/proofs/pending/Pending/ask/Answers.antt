use Rattle.std.proofs.Common.{refl, arith, subst}
use Rattle.fleet_pending.specs.PendingData.{AsksFor, IsPendingData}
use Rattle.fleet_pending.specs.Asking.{ask_result}
use Rattle.fleet_pending.proofs.Table.{place_within, read_at, asks_there, asks_anew, asks_keeps}
use Rattle.fleet_pending.proofs.Soonest.{soonest_joined, soonest_opened}
use Rattle.fleet_pending.proofs.Unchanged.{unchanged}
use Rattle.fleet_pending.proofs.pending.Pending.ask.Goals as goal

pub index_mut-requires : goal.index_mut-requires
index_mut-requires g c =
    let q = c.waiter.inside.question in
    let l = place_within (AsksFor q) _ _ c.in-Some.i refl c.in-Some.ensures in
    omega (arith, l, c.as_slice.ensures.len)

pub invariant_of-self : goal.invariant_of-self
invariant_of-self g c =
    let asks = AsksFor c.waiter.inside.question in
    let k = read_at asks c.as_slice.ensures.value c.in-Some.ensures c.index_mut.ensures.value in
    let r = ask_result c.join.result in (
      asks_keeps _ _ c.args.waiter c.args.now c.args.word r c.self.invariant.0
          (asks_there _ c.in-Some.i _ _ _ c.self.inside.entries.items c.index_mut.result.now
          c.join.new.entry _ _ r refl c.waiter.view_is k c.join.ensures.joins),
      soonest_joined c.self.inside.soonest c.in-Some.i c.self.inside.entries.items
          c.index_mut.result.now c.join.new.entry _ r c.self.invariant.1 k.there
          c.join.ensures.joins,
    )

pub invariant_of-self-in-None : goal.invariant_of-self-in-None
invariant_of-self-in-None g c =
    let r = ask_result c.add_entry.result in (
      asks_keeps _ _ c.args.waiter c.args.now c.args.word r c.self.invariant.0
          (asks_anew _ _ _ _ _ _ c.add_entry.new.entries.items _ _ r refl c.waiter.view_is
          c.as_slice.ensures.value c.in-None.ensures c.add_entry.ensures.opens),
      soonest_opened c.self.inside.soonest c.min-self-inside.result c.args.now c.args.word
          c.self.inside.entries.items c.add_entry.new.entries.items _ r c.self.invariant.1
          (omega (arith, c.min-self-inside.ensures))
          (omega (arith, c.min-self-inside.ensures, c.value.ensures.value))
          c.add_entry.ensures.opens,
    )

pub returns-in-Some-clause-asks : goal.returns-in-Some-clause-asks
returns-in-Some-clause-asks g c =
    let asks = AsksFor c.waiter.inside.question in
    let k = read_at asks c.as_slice.ensures.value c.in-Some.ensures c.index_mut.ensures.value in
    asks_there _ c.in-Some.i c.args.now c.args.word _ c.self.inside.entries.items
    c.index_mut.result.now c.join.new.entry _ c.args.waiter (ask_result c.join.result)
    c.self.view_is c.waiter.view_is k c.join.ensures.joins

pub returns-in-Some-clause-lawful : goal.returns-in-Some-clause-lawful
returns-in-Some-clause-lawful g c =
    asks_keeps _ _ _ _ _ _ (subst IsPendingData c.self.view_is c.self.invariant.0)
    (returns-in-Some-clause-asks g c)

pub returns-in-Some-clause-unchanged : goal.returns-in-Some-clause-unchanged
returns-in-Some-clause-unchanged g c =
    unchanged _ _ _ _ _ c.join.result (returns-in-Some-clause-asks g c)

pub returns-in-None-clause-asks : goal.returns-in-None-clause-asks
returns-in-None-clause-asks g c =
    asks_anew _ c.args.now c.args.word _ _ _ c.add_entry.new.entries.items _ c.args.waiter
    (ask_result c.add_entry.result) c.self.view_is c.waiter.view_is
    c.as_slice.ensures.value c.in-None.ensures c.add_entry.ensures.opens

pub returns-in-None-clause-lawful : goal.returns-in-None-clause-lawful
returns-in-None-clause-lawful g c =
    asks_keeps _ _ _ _ _ _ (subst IsPendingData c.self.view_is c.self.invariant.0)
    (returns-in-None-clause-asks g c)

pub returns-in-None-clause-unchanged : goal.returns-in-None-clause-unchanged
returns-in-None-clause-unchanged g c =
    unchanged _ _ _ _ _ c.add_entry.result (returns-in-None-clause-asks g c)
