use Rattle.std.proofs.Common.{Some, ap₂}
use Rattle.std.proofs.Math.Logic.{∥∥₁_prop}
use Rattle.fleet_program.proofs.watch.Watch.print_if_due.Goals as goal

pub returns : goal.returns
returns g c = let w = c.args.self.now in
    ap₂ (λ k l. record {
      log = w.log;
      tally = w.tally;
      clock = w.clock;
      out = w.out;
      every = w.every;
      due = Some c.if-gt.self;
      datagrams = w.datagrams;
      unwritten = c.note.new.self;
      counted = k;
      kept = l;
    }) (∥∥₁_prop _ _) (∥∥₁_prop _ _)
