use mathlib.Core.Bool.{false≢true}
use Rattle.std.proofs.Common.{◌++◌, ◌∷◌, [], refl, arith}
use Rattle.fleet_gossip.proofs.FrameSteps.{entry_more, entry_fault, trails, all_lie}
use Rattle.fleet_gossip.proofs.frame.check_entries.Goals as goal

pub returns-in-Err : goal.returns-in-Err
returns-in-Err c =
    let i = c.loop.invariant in
    entry_fault _ _ _ c.loop.counter _ i.list _ i.are c.loop-test.true c.in-Err.ensures

pub loop-preserved : goal.loop-preserved
loop-preserved c =
    let i = c.loop.invariant in let read = c.in-Ok.ensures in
    record {
      list = i.list ++ read.0 ∷ [];
      are = entry_more _ _ _ _ _ i.list _ read.0 i.are
          (read.1.lawful, read.2) read.3 refl;
    }

pub returns-then-not-is_empty : goal.returns-then-not-is_empty
returns-then-not-is_empty c =
    let i = c.loop.invariant in
    trails _ _ _ _ i.list i.are _ (omega arith)
    (λ e. false≢true (rw c.if-not-is_empty.true at (c.is_empty.ensures.1 e)))

pub returns : goal.returns
returns c =
    let i = c.loop.invariant in
    all_lie _ _ _ _ i.list i.are _ (omega arith) (c.is_empty.ensures.0 c.if-not-is_empty.false)
