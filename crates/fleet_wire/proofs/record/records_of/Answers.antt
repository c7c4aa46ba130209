use Rattle.std.proofs.Common.{◌≡◌, ◌++◌, ◌∷◌, [], arith, length-append}
use Rattle.fleet_wire.specs.Record.{RecordData}
use Rattle.fleet_wire.proofs.Records.{records_more, first_lies, others_lie}
use Rattle.fleet_wire.proofs.record.records_of.Goals as goal

pub record_at-requires-clause-found : goal.record_at-requires-clause-found
record_at-requires-clause-found g c =
    first_lies _ _ _ c.loop.invariant.rest (omega (arith, c.loop-test.true))

pub loop-preserved : goal.loop-preserved
loop-preserved g c =
    let i = c.loop.invariant in
    let one : RecordData = c.in_ok-record.record in
    let before = c.loop.records.items in
    let is : c.push.new.self.items ≡ before ++ one ∷ [] = c.in_ok-push.ensures.items in
    record {
      found = rw is (records_more _ _ _ _ before one i.found c.in_ok-record.ensures);
      counted = rw (is, length-append before (one ∷ [])) (omega (arith, i.counted));
      rest = others_lie _ _ _ _ one _ i.rest (omega (arith, c.loop-test.true)) c.in_ok-record.ensures;
    }
