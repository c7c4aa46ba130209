use Rattle.std.proofs.Common.{◌≡◌}
use Rattle.fleet_site.specs.server.Turn.{left_after, HasPassed}
use Rattle.fleet_site.proofs.Loops.{Serves}
use Rattle.fleet_site.proofs.server.serve.Given as goal

abbrev pub invariant-loop : goal.invariant-loop
invariant-loop g l = record {
  run : Serves (g.P.Port.state l.fn.port) (g.P.Port.state l.port) (g.C.Clock.moments l.fn.clock)
      (g.R.Rng.stream l.fn.rng) l.counter l.sweep_every l.fn.site l.site l.run.swept l.run.report;
  clock : HasPassed (g.C.Clock.moments l.fn.clock) l.counter (g.C.Clock.moments l.clock);
  stream : g.R.Rng.stream l.rng ≡ left_after l.counter (g.R.Rng.stream l.fn.rng);
}
