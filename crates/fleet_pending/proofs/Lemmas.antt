-- The lemmas of this crate's words. Crates above cite these, and no other file of proofs/.
-- Serves fleet_site.
pub use Rattle.fleet_pending.proofs.Placed.{at_left, at_push, at_remove}
