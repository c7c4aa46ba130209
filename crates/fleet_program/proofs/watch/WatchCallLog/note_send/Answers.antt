use Rattle.std.proofs.Math.Logic.{∥∥₁_map}
use Rattle.fleet_program.proofs.Counting.{tallied}
use Rattle.fleet_program.proofs.watch.WatchCallLog.note_send.Goals as goal

pub invariant_of-self : goal.invariant_of-self
invariant_of-self g c =
    let old = c.args.self.now in
    let both = tallied _ _ _ _ _ c.note_send-2.ensures c.note_send.ensures old.counted old.kept in
    record { counted = ∥∥₁_map both (λ x. x.0); kept = ∥∥₁_map both (λ x. x.1) }
