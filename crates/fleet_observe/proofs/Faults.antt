-- Nothing is wrong with a reply that means something.
-- Serves law `digest_or_fault`, and fleet_site.
use Rattle.std.proofs.Common.{◌≡◌, List, inl, inr}
use Rattle.fleet_wire.specs.Message.{MessageData}
use Rattle.fleet_observe.specs.declared.reply.ending.DigestFault.{DigestFault}
use Rattle.fleet_observe.specs.declared.reply.ending.DigestFault.TheVariants.{OutOfMemory}
use Rattle.fleet_observe.specs.RrSet.{RrSetData}
use Rattle.fleet_observe.specs.Digest.{EndData, Records, NoData, NxDomain, Code, Truncated, DigestData}
use Rattle.fleet_observe.specs.DigestOf.{AsksWalk, IsWalkable, IsFault, not_reply, bad_chain, no_memory, IsDigest, IsSound, EndsAs}
use Rattle.fleet_observe.proofs.LawfulMeanings.{no_walk_cut, no_walk_coded}

ends_walkable : (r : MessageData) (chain : List RrSetData) (e : EndData) → EndsAs r chain e
    → AsksWalk r → IsWalkable r
ends_walkable r chain Truncated ends_as asks = absurd (no_walk_cut r ends_as.0 asks)
ends_walkable r chain (Code c) ends_as asks =
    absurd (no_walk_coded r (λ h. elim h [ inl e ↦ ends_as.1 e | inr e ↦ ends_as.2 e ]) asks)
ends_walkable r chain (Records x) ends_as asks = (ends_as.later, ends_as.walk)
ends_walkable r chain (NoData soa) ends_as asks = (ends_as.later, ends_as.walk)
ends_walkable r chain (NxDomain soa) ends_as asks = (ends_as.later, ends_as.walk)

pub meaning_sound : (r : MessageData) (d : DigestData) → IsDigest r d → IsSound r
meaning_sound r d meaning = (meaning.served, ends_walkable r d.chain d.end meaning.ends_as)

pub digest_or_fault : (r : MessageData) (d : DigestData) (f : DigestFault) → IsDigest r d
    → IsFault r f → f ≡ OutOfMemory
digest_or_fault r d f meaning (not_reply unserved fault_is) = absurd (unserved meaning.served)
digest_or_fault r d f meaning (bad_chain served asks none fault_is) =
    absurd (none (ends_walkable r d.chain d.end meaning.ends_as asks))
digest_or_fault r d f meaning (no_memory sound fault_is) = fault_is
