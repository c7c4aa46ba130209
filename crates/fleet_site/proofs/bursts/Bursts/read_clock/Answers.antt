use Rattle.std.proofs.Common.{ap, ◌∙◌, refl, sym}
use Rattle.fleet_site.specs.socket.SocketRecord.{nanos_of}
use Rattle.fleet_site.proofs.Working.{clock_stays, clock_none}
use Rattle.fleet_site.proofs.bursts.Bursts.read_clock.Goals as goal

pub returns-else-is_over-clause-clock : goal.returns-else-is_over-clause-clock
returns-else-is_over-clause-clock g c = record {
  time = nanos_of c.time.result;
  called = c.time.ensures;
  burst = clock_stays _ _ _ (ap nanos_of c.in-Some.is) (sym c.is_over.ensures ∙ c.if-is_over.false);
  rest = refl;
}

pub returns-in-None-clause-clock : goal.returns-in-None-clause-clock
returns-in-None-clause-clock g c = record {
  time = nanos_of c.time.result;
  called = c.time.ensures;
  burst = clock_none _ _ (ap nanos_of c.in-None.is);
  rest = refl;
}
