use Rattle.std.proofs.Common.{arith}
use Rattle.std.proofs.lemmas.List.{length-append}
use Rattle.fleet_observe.proofs.Sections.{in_of_own}
use Rattle.fleet_observe.proofs.Walks.{linked_none, linked_more, linked_room, linked_whole, stops_there}
use Rattle.fleet_observe.proofs.reply.summary.follow.Goals as goal

pub loop-alias-init : goal.loop-alias-init
loop-alias-init g c = rw c.new-chain.ensures.items (record {
  linked = linked_none _ _ _;
  spelled = c.requires.spelled;
})

pub rrset_at-requires : goal.rrset_at-requires
rrset_at-requires g c = (_, in_of_own _ _ _ _ (rw (← c.alias.view_is) at c.in-Alias.ensures).of_set)

pub loop-alias-smaller : goal.loop-alias-smaller
loop-alias-smaller g c =
    let i = c.loop-alias.invariant in
    let room = linked_room _ _ _ _ _ _ i.linked c.in-Alias.ensures.goes c.requires.walk in
    rw c.in_ok-push.ensures.items (rw length-append (omega (arith, room)))

pub loop-alias-preserved : goal.loop-alias-preserved
loop-alias-preserved g c =
    let i = c.loop-alias.invariant in
    let alias = rw (← c.alias.view_is) at c.in-Alias.ensures in
    let on = rw (← c.as_slice-at.ensures) at alias in
    let owned = rw alias.of_set.is_of_rrset.owner at c.in_ok-link.ensures in
    rw c.in_ok-push.ensures.items
    (record { linked = linked_more _ _ _ _ _ _ _ i.linked on.goes owned; spelled = on.spelled })

pub returns : goal.returns
returns g c =
    let i = c.loop-alias.invariant in
    let w = linked_whole _ _ _ _ _ i.linked (stops_there _ _ _ _ c.hop_at.ensures
    c.in_default.not-Alias) c.requires.walk in
    record { later = w.0; walk = w.1; links = w.2; at_last = w.3; spelled = i.spelled }
