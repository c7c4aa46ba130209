-- How a list of observations is packed into frames.
-- Serves `pack`, `sweep`, law `one_packing`.
use Rattle.std.specs.Prelude.{◌≡◌, ◌<◌, List, [], ◌∷◌, ◌++◌, length}
use Rattle.fleet_name.specs.Types.{OctetList}
use Rattle.fleet_observe.specs.Observation.{Observations}
use Rattle.fleet_gossip.specs.Frame.{frame_octets, WritesFrame}
use Rattle.fleet_gossip.specs.declared.frame.TheConstants.{VERSION}
use Rattle.fleet_gossip.specs.declared.bounds.TheConstants.{LONGEST_FRAME}

-- with the next one, if there is any, a part would not fit a frame
abbrev pub IsFull : Observations → Observations → Type 0
IsFull part [] = Unit {0}
IsFull part (next ∷ rest) = LONGEST_FRAME < length (frame_octets VERSION (part ++ next ∷ []))

-- The frames of a list: none of an empty one; else the first frame is that of the first ones, as many
-- as fit, and the others are the frames of the rest. So they spell consecutive parts that join to the
-- list, and none is empty.
pub data IsPacked : Observations → List OctetList → Type 0 where
  none : {list : Observations} {frames : List OctetList} → list ≡ [] → frames ≡ []
      → IsPacked list frames
  more : {list : Observations} {frames : List OctetList} (part rest : Observations)
      (first : OctetList)
      (others : List OctetList)
      → list ≡ part ++ rest → 0 < length part → WritesFrame first part → IsFull part rest
      → IsPacked rest others → frames ≡ first ∷ others
      → IsPacked list frames
