-- The lemmas of this crate's words. Crates above cite these, and no other file of proofs/.
-- Serves fleet_gossip, fleet_world.
pub use Rattle.fleet_cache.specs.steps.Orders.{Over, over_from, over_to, over_chain, ended_below}
pub use Rattle.fleet_cache.proofs.Places.{place_total, place_exact, place_laws}
pub use Rattle.fleet_cache.proofs.SameKeys.{HasKeyOf, key_parts}
pub use Rattle.fleet_cache.proofs.Beats.{beats, beats_chain, beaten_ends, beats_laws, cached_front, cached_from}
pub use Rattle.fleet_cache.proofs.Caches.{item_of_set, cached_itself, cached_same, cached_listed, cached_both, HasTaken, taken_none, taken_more, taken_is, taken_within, seam_at, at_ok, at_err}
pub use Rattle.fleet_cache.specs.steps.Best.{IsBest}
pub use Rattle.fleet_cache.proofs.Best.{best_filtered, best_unique}
pub use Rattle.fleet_cache.proofs.KindsOfParts.{has_kinds-answer_of}
