-- What an event names: sites and frames, numbered from 0. Definitions of other modules that end with a
-- line for any other event (`now_of`, `IsHonest`, `CountsAs`, `GossipBrings` and more) take a new event
-- in there.
-- Serves `World::step`.
use Rattle.std.specs.Prelude.{ℕ, ◌<◌}
use Rattle.fleet_world.specs.declared.event.Event.{Event}
use Rattle.fleet_world.specs.declared.event.Event.TheVariants.{Datagram, Tick, Sweep, Frame, Deliver, Learn, Flush, Merge, Restart}

-- the site at which an event happens: of a merge the one that takes
abbrev pub site_of : {A : Type 0} → Event A → ℕ
site_of (Datagram site now from word bytes) = site
site_of (Tick site now) = site
site_of (Sweep site) = site
site_of (Frame site now bytes) = site
site_of (Deliver site now frame) = site
site_of (Learn site now bytes) = site
site_of (Flush site now name) = site
site_of (Merge into from) = into
site_of (Restart site) = site

-- the fleet has each site that the event names: its number is among this number of sites
abbrev pub HasSites : {A : Type 0} → ℕ → Event A → Type 0
HasSites sites (Merge into from) = (into < sites) × (from < sites)
HasSites sites e = site_of e < sites

-- the fleet has the frame that the event names, if it names one: its number is among this number of
-- kept frames
abbrev pub HasNamedFrame : {A : Type 0} → ℕ → Event A → Type 0
HasNamedFrame frames (Deliver site now frame) = frame < frames
HasNamedFrame frames e = Unit {0}
