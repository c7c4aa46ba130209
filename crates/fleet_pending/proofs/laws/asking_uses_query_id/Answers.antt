use Rattle.fleet_pending.proofs.AskingUsesQueryId.{asks_under_query_id}
use Rattle.fleet_pending.proofs.laws.asking_uses_query_id.Goals as goal

pub returns : goal.returns
returns c = asks_under_query_id
