use Rattle.std.proofs.Common.{refl}
use Rattle.fleet_site.specs.socket.Parts.{data_of}
use Rattle.fleet_site.proofs.Working.{at_once, burst_takes, kept_first, same_data}
use Rattle.fleet_site.proofs.bursts.Bursts.receive_burst.Goals as goal

pub returns-then-len-le-LONGEST_MESSAGE-clause-receives : goal.returns-then-len-le-LONGEST_MESSAGE-clause-receives
returns-then-len-le-LONGEST_MESSAGE-clause-receives g c =
    at_once _ _ _ _ _ _ c.requires.idle c.requires.len refl refl

pub returns-then-not-make_room-clause-receives : goal.returns-then-not-make_room-clause-receives
returns-then-not-make_room-clause-receives g c =
    at_once _ _ _ _ _ _ c.requires.idle c.requires.len refl
    (same_data _ _ refl c.make_room.ensures.messages c.make_room.ensures.frames)

pub returns-clause-receives : goal.returns-clause-receives
returns-clause-receives g c =
    burst_takes _ _ (data_of (g.S.Socket.state c.args.self.now.socket) c.args.self.now) _ _ _ _
    (kept_first _ (data_of (g.S.Socket.state c.args.self.now.socket) c.args.self.now) _ _
    (same_data _ _ refl c.make_room.ensures.messages c.make_room.ensures.frames) c.requires.idle c.keep.ensures.kept)
    c.take_next.ensures.takes
