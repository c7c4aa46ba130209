use Rattle.std.proofs.Common.{◌∙◌, sym, ap}
use mathlib.Core.Bool.{false≢true}
use Rattle.std.specs.List.{insert}
use Rattle.fleet_observe.specs.Members.{Has}
use Rattle.fleet_observe.specs.RrSet.{count_below}
use Rattle.fleet_observe.proofs.Sets.{insert_ascending, insert_members}
use Rattle.fleet_observe.proofs.reply.rrset.add.Goals as goal

pub returns-clause-ascending : goal.returns-clause-ascending
returns-clause-ascending g c =
    let out = λ (h : Has c.args.rdatas.now.items c.args.rdata.now). false≢true
    (sym c.if-holds.false ∙ c.holds.ensures.1 (rw c.deref.ensures.value h)) in
    let at = c.insertion_index-at.ensures.count ∙ ap (count_below c.args.rdata.now) c.deref-2.ensures.value in
    let new = c.in_ok-insert.ensures.items ∙ ap (insert c.args.rdatas.now.items c.insertion_index-at.result)
    c.in_ok-copy_of.ensures in
    rw new (insert_ascending c.args.rdata.now c.args.rdatas.now.items c.insertion_index-at.result at out
    c.requires)

pub returns-clause-members : goal.returns-clause-members
returns-clause-members g c z =
    let at = c.insertion_index-at.ensures.count ∙ ap (count_below c.args.rdata.now) c.deref-2.ensures.value in
    let new = c.in_ok-insert.ensures.items ∙ ap (insert c.args.rdatas.now.items c.insertion_index-at.result)
    c.in_ok-copy_of.ensures in
    rw new (insert_members c.args.rdata.now c.args.rdatas.now.items c.insertion_index-at.result at z)
