-- What the program serves: a new site, with the words of a key.
-- Serves `run_program`, for `dnsfleet serve`.
use Rattle.std.specs.Prelude.{◌≡◌, ℕ, List, [], Option, Some}
use Rattle.fleet_name.specs.Types.{OctetList}
use Rattle.rand_core.specs.Steps.{stream_of, steps_u32}
use Rattle.rand_core.specs.Stream.{Stream}
use Rattle.rand_chacha.specs.ChaCha.{of_seed, next_word}
use Rattle.fleet_site.specs.server.PortRecord.{PortCall}
use Rattle.fleet_site.specs.server.Served.{FollowsSteps}
use Rattle.fleet_site.specs.socket.SocketRecord.{SocketCall}
use Rattle.fleet_site.specs.socket.Bursts.{BurstData}
use Rattle.fleet_site.specs.socket.Serving.{ServedOver, WholeRunIfNoted}
use Rattle.fleet_site.specs.StandsFor.{StandsFor, opening}
use Rattle.fleet_site.specs.SiteData.{SiteData}
use Rattle.fleet_site.specs.declared.report.Report.{Report}
use Rattle.fleet_program.specs.declared.settings.Settings.{Settings}

-- the words of a key: the key stream of ChaCha20 (RFC 8439 2.3), with a counter of 64 bits and ten
-- double rounds
abbrev pub key_stream : OctetList → Stream
key_stream key = stream_of (steps_u32 (next_word 10)) (of_seed key)

-- this number of turns was served by a site that took nothing in before, with the upstreams, the peers
-- and the seconds between sweeps that the settings say, and with the words of the key; the site follows
-- its model's steps. Where the port noted nothing before, its whole record is that of the run, and so
-- is its socket's
pub record ServesNew (old : Option (List PortCall)) (failed : ℕ) (new : Option (List PortCall))
    (calls : Option (List SocketCall)) (port : BurstData) (moments : Option (ℕ → ℕ)) (key : OctetList) (turns : ℕ)
    (settings : Settings) (report : Report) : Type 0 where
  pub site : SiteData
  pub after : SiteData
  pub opens : StandsFor site (opening settings.config.upstreams settings.config.peers)
  pub run : ServedOver old failed new site after
      (record {
        moments = moments;
        words = key_stream key;
        turns = turns;
        every = settings.sweep;
      }) report
  pub whole : old ≡ Some [] → ∥ WholeRunIfNoted calls new port site
      (record {
        moments = moments;
        words = key_stream key;
        turns = turns;
        every = settings.sweep;
      }) ∥₁
  pub follows : FollowsSteps site after
