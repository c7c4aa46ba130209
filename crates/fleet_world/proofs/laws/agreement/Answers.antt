use Rattle.fleet_world.proofs.Agreed as agreed
use Rattle.fleet_world.proofs.Named as named
use Rattle.fleet_world.proofs.Silent as silent
use Rattle.fleet_world.proofs.laws.agreement.Goals as goal

pub returns-clause-two : goal.returns-clause-two
returns-clause-two g c =
    agreed.two c.one_list.ensures c.caches_exist.ensures c.one_answer.ensures c.one_cache.ensures.one _

pub returns-clause-spread : goal.returns-clause-spread
returns-clause-spread g c =
    agreed.settled c.one_list.ensures c.caches_exist.ensures c.one_answer.ensures
    c.one_cache.ensures.one _

pub returns-clause-quiet : goal.returns-clause-quiet
returns-clause-quiet g c = silent.quiet c.one_list.ensures _

pub returns-clause-silent : goal.returns-clause-silent
returns-clause-silent g c = silent.silent c.one_list.ensures _

pub returns-clause-names : goal.returns-clause-names
returns-clause-names g c =
    named.named c.one_list.ensures c.caches_exist.ensures c.one_answer.ensures
    c.tests_hold.ensures.live c.tests_hold.ensures.relevant _
