use Rattle.std.proofs.Common.{refl, ◌≡◌, arith}
use Rattle.fleet_site.proofs.ServeLemmas.{serves_none, serves_more, serves_run, serves_failures, serves_follows, past_none, past_more, is_moment, left_more}
use Rattle.fleet_site.proofs.server.serve.Goals as goal

pub loop-init : goal.loop-init
loop-init g c = record {
  run = rw c.new-report.ensures
      (serves_none _ _ _ c.args.sweep_every c.args.site.now);
  clock = past_none _;
  stream = refl;
}

pub loop-preserved : goal.loop-preserved
loop-preserved g c =
    let l = left_more _ _ _ c.loop.counter c.next_u32.result c.loop.invariant.stream
    c.next_u32.ensures in
    record {
      run = serves_more _ _ _ _ _ c.loop.counter c.args.sweep_every c.now-now.result _
          c.args.site.now c.loop.site c.take_turn.new.site c.loop.run.swept
          c.take_turn.new.run.swept c.loop.run.report c.take_turn.new.run.report
          c.loop.invariant.run
          (is_moment _ _ _ c.loop.counter c.now-now.result c.loop.invariant.clock c.now-now.ensures)
          l.1 c.take_turn.ensures;
      clock = past_more _ _ _ c.loop.counter c.now-now.result c.loop.invariant.clock
          c.now-now.ensures;
      stream = l.0;
    }

pub returns-clause-run : goal.returns-clause-run
returns-clause-run g c = let n : c.loop.counter ≡ c.args.turns = omega arith in
    serves_run _ _ _ _ _ _ _ _ _ _ (rw n at c.loop.invariant.run)

pub returns-clause-failures : goal.returns-clause-failures
returns-clause-failures g c = serves_failures _ _ _ _ _ _ _ _ _ _ c.loop.invariant.run

pub returns-clause-follows : goal.returns-clause-follows
returns-clause-follows g c = serves_follows _ _ _ _ _ _ _ _ _ _ c.loop.invariant.run

pub returns-clause-words : goal.returns-clause-words
returns-clause-words g c =
    let n : c.loop.counter ≡ c.args.turns = omega arith in rw n at c.loop.invariant.stream

pub returns-clause-moments : goal.returns-clause-moments
returns-clause-moments g c =
    let n : c.loop.counter ≡ c.args.turns = omega arith in rw n at c.loop.invariant.clock
