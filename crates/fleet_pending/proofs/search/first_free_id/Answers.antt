use Rattle.std.proofs.Common.{arith, length, ◌<◌}
use Rattle.fleet_pending.specs.declared.bounds.TheConstants.{MOST_ENTRIES}
use Rattle.fleet_pending.proofs.FreeId.{passed_more, not_all_taken}
use Rattle.fleet_pending.proofs.search.first_free_id.Goals as goal

pub loop-passed-preserved : goal.loop-passed-preserved
loop-passed-preserved g c =
    passed_more c.args.word c.args.entries.now c.loop-passed.passed c.mark_taken-taken.result
    c.loop-passed-test.true c.mark_taken-taken.ensures c.if-not-taken-passed.false
    c.loop-passed.invariant

pub unreachable-requires : goal.unreachable-requires
unreachable-requires g c =
    let l : length c.args.entries.now < MOST_ENTRIES = omega arith in
    not_all_taken c.args.word c.args.entries.now c.loop-passed.passed c.loop-passed-test.false l
    c.loop-passed.invariant
