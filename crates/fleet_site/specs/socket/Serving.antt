-- A server over a socket.
-- Serves `serve_socket`.
use Rattle.std.specs.Prelude.{ℕ, List, Option, Some, None}
use Rattle.fleet_site.specs.SiteData.{SiteData}
use Rattle.fleet_site.specs.server.PortRecord.{PortCall}
use Rattle.fleet_site.specs.server.Turn.{ServerState, Turns, start_of}
use Rattle.fleet_site.specs.server.Served.{Served, RunInput}
use Rattle.fleet_site.specs.socket.SocketRecord.{SocketCall}
use Rattle.fleet_site.specs.socket.Bursts.{BurstData}
use Rattle.fleet_site.specs.socket.Flow.{Flows}
use Rattle.fleet_site.specs.declared.report.Report.{Report}

-- a server's run over a port with a record: its turns were made with a port that noted their calls; as
-- it ended, this many calls had failed
pub record ServedOver (old : Option (List PortCall)) (failed : ℕ) (new : Option (List PortCall))
    (site after : SiteData) (i : RunInput) (report : Report) : Type 0 where
  pub failed_then : ℕ
  pub served : Served (record { noted = old; failed = failed })
      (record { noted = new; failed = failed_then }) site after i report

-- a server's run over a socket with a record, from the datagrams that the socket received to those that
-- it was given to send: the turns of a site were made, and what they received and sent went through the
-- socket, of which nothing else was asked
pub record WholeRun (calls : List SocketCall) (p : BurstData) (site : SiteData) (i : RunInput)
    : Type 0 where
  pub end : ServerState
  pub run : Turns i.moments i.words i.every i.turns (start_of site) end
  pub flows : Flows calls end.calls p

-- a server's run over a socket, where both records were kept
abbrev pub WholeRunIfNoted : Option (List SocketCall) → Option (List PortCall) → BurstData
    → SiteData → RunInput → Type 0
WholeRunIfNoted None noted p site i = Unit {0}
WholeRunIfNoted (Some calls) None p site i = Unit {0}
WholeRunIfNoted (Some calls) (Some noted) p site i = WholeRun calls p site i
