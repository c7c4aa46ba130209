-- What a port over a socket holds, by its fields.
-- Serves `BurstPort`.
use Rattle.fleet_site.specs.socket.SocketRecord.{SocketState, nanos_of}
use Rattle.fleet_site.specs.socket.Inbox.{waiting_messages, waiting_frames}
use Rattle.fleet_site.specs.socket.Bursts.{BurstData}
use Rattle.fleet_site.specs.declared.bursts.Bursts.{Bursts}

-- what a port over a socket holds, by its fields
abbrev pub data_of : {S A : Type 0} → SocketState → Bursts S A → BurstData
data_of socket port = record {
  socket = socket;
  peers = port.peers.items;
  messages = waiting_messages port.arrived;
  frames = waiting_frames port.arrived;
  dropped = port.dropped;
  leaving = port.leaving.waiting;
  places = port.leaving.places;
  window = port.leaving.window;
  unpaced = port.unpaced;
  burst = record { began = nanos_of port.began; sent = port.sent };
  failed = port.failed;
}
