use Rattle.fleet_cache.proofs.OneAnswer.{sets_answer_alike}
use Rattle.fleet_cache.proofs.laws.one_answer.Goals as goal

pub returns : goal.returns
returns c = sets_answer_alike
