use Rattle.std.proofs.Common.{refl, arith}
use Rattle.fleet_wire.specs.Fault.{not_back}
use Rattle.fleet_wire.proofs.name_reader.name_part_at.Goals as goal

pub returns-then-first-lt64 : goal.returns-then-first-lt64
returns-then-first-lt64 c = c.label_at.ensures c.args.start

pub returns-then-target-start : goal.returns-then-target-start
returns-then-target-start c =
    not_back _ (record {
      within = c.if-at-message-2.false;
      marked =
          omega (arith, c.if-first-lt192.false);
      target = refl;
    }) c.if-target-start.true refl
