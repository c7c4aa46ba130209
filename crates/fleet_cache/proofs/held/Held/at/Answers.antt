use Rattle.std.proofs.Common.{sym, ap, subst}
use Rattle.fleet_cache.specs.steps.Keyed.{HasNoKey, IsOfKey, IsOfName}
use Rattle.fleet_cache.specs.steps.Packed.{octet_words}
use Rattle.fleet_cache.proofs.Looked.{none_of_name, all_of_name, packable_wire}
use Rattle.fleet_cache.proofs.held.Held.at.Goals as goal

pub returns-in_default-clause-of_name : goal.returns-in_default-clause-of_name
returns-in_default-clause-of_name g c n kind e =
    let q = octet_words c.args.name.now in
    none_of_name q n c.args.self.now (ap octet_words e) kind
    (subst (λ v. HasNoKey v q) c.self.view_is c.in_default.ensures.found)

pub returns-clause-of_name : goal.returns-clause-of_name
returns-clause-of_name g c n kind e =
    let q = octet_words c.args.name.now in
    let f = c.in-Some.front.now in
    subst (IsOfName kind c.args.self.now n) (sym c.items.ensures.items)
    (all_of_name q n c.args.self.now (ap octet_words e) kind
    (packable_wire c.args.name.now c.requires c.in-Some.ensures.bytes n e) f
    (subst (λ v. IsOfKey v q f) c.self.view_is c.in-Some.ensures.found))
