use Rattle.fleet_world.proofs.TellingLatest as latest
use Rattle.fleet_world.proofs.Telling as telling
use Rattle.fleet_world.proofs.Told as told
use Rattle.fleet_world.proofs.laws.telling.Goals as goal

pub returns-clause-two : goal.returns-clause-two
returns-clause-two g c =
    telling.two c.one_list.ensures c.caches_exist.ensures c.one_answer.ensures
    c.one_cache.ensures.one _

pub returns-clause-horizons : goal.returns-clause-horizons
returns-clause-horizons g c = latest.horizons _

pub returns-clause-told : goal.returns-clause-told
returns-clause-told g c = told.told _

pub returns-clause-agree : goal.returns-clause-agree
returns-clause-agree g c =
    telling.agree c.one_list.ensures c.caches_exist.ensures c.one_answer.ensures
    c.one_cache.ensures.one _

pub returns-clause-answers : goal.returns-clause-answers
returns-clause-answers g c =
    telling.answers c.one_list.ensures c.caches_exist.ensures c.one_answer.ensures
    c.tests_hold.ensures.live c.tests_hold.ensures.relevant _
