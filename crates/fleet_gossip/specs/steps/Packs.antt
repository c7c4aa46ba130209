-- How far a list is packed.
-- Serves `pack`, `sweep`.
use Rattle.std.specs.Prelude.{◌≡◌, ℕ, ◌≤◌, List, [], ◌++◌, length}
use Rattle.fleet_name.specs.Types.{OctetList}
use Rattle.fleet_observe.specs.Observation.{AreObservations, Observations}
use Rattle.fleet_gossip.specs.Frame.{entries, frame_octets}
use Rattle.fleet_gossip.specs.Packed.{IsPacked}
use Rattle.fleet_gossip.specs.declared.frame.TheConstants.{VERSION}
use Rattle.fleet_gossip.specs.declared.packer.Packer.{Packer}
use Rattle.fleet_gossip.specs.declared.bounds.TheConstants.{LONGEST_FRAME}

-- The finished frames, and the `count` entries of the unfinished one, hold what was taken. Whatever
-- follows: where some frames pack those entries and it, the finished frames and these pack all.
pub record Hold (frames : List OctetList) (octets : OctetList) (count : ℕ)
    (taken : Observations)
    : Type 0 where
  pub part : Observations
  pub lawful : AreObservations part
  pub counted : count ≡ length part
  pub none : taken ≡ [] → part ≡ []
  pub spelled : octets ≡ entries part
  pub fits : length (frame_octets VERSION part) ≤ LONGEST_FRAME
  pub goes_on : (rest : Observations) (others : List OctetList)
      → IsPacked (part ++ rest) others
      → IsPacked (taken ++ rest) (frames ++ others)

-- the packer holds what was taken
abbrev pub Packs : {A : Type 0} → Packer A → Observations → Type 0
Packs packer taken = Hold packer.frames.items packer.entries.items packer.count taken

-- the packer holds some list
abbrev pub IsPacking : {A : Type 0} → Packer A → Type 0
IsPacking packer = (taken : Observations) × Packs packer taken
