use Rattle.std.proofs.Math.Logic.{∥∥₁_map}
use Rattle.fleet_program.proofs.Counting.{tallied}
use Rattle.fleet_program.proofs.watch.WatchCallLog.note_receive.Goals as goal

pub invariant_of-self : goal.invariant_of-self
invariant_of-self g c =
    let old = c.look.new.self in
    let both = tallied _ _ _ _ _ c.note_receive-2.ensures c.note_receive.ensures old.counted old.kept in
    record { counted = ∥∥₁_map both (λ x. x.0); kept = ∥∥₁_map both (λ x. x.1) }

pub invariant_of-self-else-is_datagram : goal.invariant_of-self-else-is_datagram
invariant_of-self-else-is_datagram g c =
    let old = c.look.new.self in
    let both = tallied _ _ _ _ _ c.note_receive-2.ensures c.note_receive.ensures old.counted old.kept in
    record { counted = ∥∥₁_map both (λ x. x.0); kept = ∥∥₁_map both (λ x. x.1) }
