-- A frame: observations as octets.
-- Serves `encode`, `decode`, `take_frame`, `pack`, `sweep`, and every law of frames.
use Rattle.std.specs.Prelude.{◌≡◌, ◌≢◌, ℕ, ◌≤◌, [], ◌++◌, length}
use Rattle.std.specs.List.{flat_map}
use Rattle.fleet_name.specs.Types.{OctetList}
use Rattle.fleet_wire.specs.Number.{u16_octets}
use Rattle.fleet_observe.specs.Observation.{Observations}
use Rattle.fleet_gossip.specs.Entry.{octet, entry_octets, IsVersion, AreIn}
use Rattle.fleet_gossip.specs.declared.frame.TheConstants.{MAGIC, VERSION}
use Rattle.fleet_gossip.specs.declared.bounds.TheConstants.{LONGEST_FRAME}

-- the entries of observations, one after the other
abbrev pub entries : Observations → OctetList
entries list = flat_map entry_octets list

-- the octets of a frame of a version: the magic, the version, how many entries there are, and the
-- entries
abbrev pub frame_octets : ℕ → Observations → OctetList
frame_octets version list =
    u16_octets MAGIC ++ (octet version ++ (u16_octets (length list) ++ entries list))

-- these octets are the frame of these lawful observations, in a version that is read and has their
-- kinds, and are at most `LONGEST_FRAME`
pub record SpellsFrame (octets : OctetList) (list : Observations) : Type 0 where
  pub version : ℕ
  pub read : IsVersion version
  pub lawful : AreIn version list
  pub spelled : octets ≡ frame_octets version list
  pub fits : length octets ≤ LONGEST_FRAME

-- these octets are the frame of these observations in the version that is written
abbrev pub WritesFrame : OctetList → Observations → Type 0
WritesFrame octets list = (is : SpellsFrame octets list) × (is.version ≡ VERSION)

-- the octets are the frame of one observation at least
pub record HasEntries (octets : OctetList) : Type 0 where
  pub list : Observations
  pub spelled : SpellsFrame octets list
  pub some : list ≢ []
