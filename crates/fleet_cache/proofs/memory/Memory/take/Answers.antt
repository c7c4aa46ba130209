use Rattle.std.proofs.Common.{OnOk, subst}
use Rattle.fleet_cache.specs.steps.Rounds.{KeepsBounds}
use Rattle.fleet_cache.proofs.memory.Memory.take.Goals as goal

pub returns-clause-bounded : goal.returns-clause-bounded
returns-clause-bounded g c = subst (λ v. OnOk c.take_in.result (KeepsBounds v (record {
  floor = c.self.inside.floor;
  items = c.take_in.new.held;
  at = c.take_in.new.round.cursor.key.items;
  owed = c.take_in.new.round.owed;
}))) c.self.view_is c.take_in.ensures.bounded
