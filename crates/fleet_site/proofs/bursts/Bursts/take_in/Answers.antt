use Rattle.std.proofs.Common.{rules, ap, ◌∙◌, refl, Ok}
use Rattle.fleet_site.specs.socket.Parts.{data_of}
use Rattle.fleet_site.specs.socket.Bursts.{arrived_of}
use Rattle.fleet_site.proofs.Working.{came_none, came_failed, came_kept, keeping, same_data}
use Rattle.fleet_site.proofs.Busy.{refused, now_quick, room_made, looked_on, failed_on}
use Rattle.fleet_site.proofs.bursts.Bursts.take_in.Goals as goal

pub returns-then-not-set_waiting-clause-took : goal.returns-then-not-set_waiting-clause-took
returns-then-not-set_waiting-clause-took g c = refused _ _ _ _ c.set_waiting.ensures c.if-not-set_waiting.true

pub returns-then-not-make_room-clause-took : goal.returns-then-not-make_room-clause-took
returns-then-not-make_room-clause-took g c =
    room_made _ _ _ _ _ c.loop.invariant.0
    (same_data _ _ refl c.make_room.ensures.messages c.make_room.ensures.frames)

pub returns-in-Ok-None-clause-took : goal.returns-in-Ok-None-clause-took
returns-in-Ok-None-clause-took g c =
    looked_on _ _ _ _ _ _ _ (room_made _ _ _ _ _ c.loop.invariant.0
    (same_data _ _ refl c.make_room.ensures.messages c.make_room.ensures.frames)) c.loop.auto.buffer
    (came_none _ _ _ _ c.receive.result c.receive.new.buffer c.loop.invariant.2 c.receive.ensures.called
    (c.in-Ok-None.is ∙ ap Ok c.in-Ok-None.field-0-is)
    (keeping _ _ _ (ap (data_of (g.S.Socket.state c.receive.new.self.socket)) c.receive.ensures.rest))
    (ap (λ p. arrived_of (data_of (g.S.Socket.state c.receive.new.self.socket) p)) c.receive.ensures.rest)
    (ap (λ p. p.failed) c.receive.ensures.rest))
    (refl, refl, tt) tt

pub returns-in-Err-clause-took : goal.returns-in-Err-clause-took
returns-in-Err-clause-took g c =
    failed_on _ _ _ _ _ _ _ _ (room_made _ _ _ _ _ c.loop.invariant.0
    (same_data _ _ refl c.make_room.ensures.messages c.make_room.ensures.frames)) c.loop.auto.buffer
    (came_failed _ _ _ _ c.receive.result c.receive.new.buffer c.in-Err.fault c.loop.invariant.2
    c.receive.ensures.called c.in-Err.is
    (keeping _ _ _ (ap (data_of (g.S.Socket.state c.receive.new.self.socket)) c.receive.ensures.rest))
    (ap (λ p. arrived_of (data_of (g.S.Socket.state c.receive.new.self.socket) p)) c.receive.ensures.rest)
    (ap (λ p. p.failed) c.receive.ensures.rest))
    (refl, refl, tt)

pub loop-init : goal.loop-init
loop-init g c = (now_quick _ _ _ _ c.set_waiting.ensures c.if-not-set_waiting.false, search rules, search rules)

pub loop-preserved : goal.loop-preserved
loop-preserved g c = (
  looked_on _ _ _ _ _ _ _ (room_made _ _ _ _ _ c.loop.invariant.0
      (same_data _ _ refl c.make_room.ensures.messages c.make_room.ensures.frames)) c.loop.auto.buffer
      (came_kept _ _ _ _ _ c.receive.result c.receive.new.buffer c.in-Ok-Some.from c.in-Ok-Some.len
      c.loop.invariant.2 c.receive.ensures.called
      (ap (data_of (g.S.Socket.state c.receive.new.self.socket)) c.receive.ensures.rest)
      (c.in-Ok-Some.is ∙ ap Ok c.in-Ok-Some.field-0-is) c.keep-is_kept.ensures.kept)
      (refl, refl, tt) tt,
  search rules,
  search rules,
)

pub returns-then-drops-ge-MOST_DROPPED-clause-took : goal.returns-then-drops-ge-MOST_DROPPED-clause-took
returns-then-drops-ge-MOST_DROPPED-clause-took g c =
    looked_on _ _ _ _ _ _ _ (room_made _ _ _ _ _ c.loop.invariant.0
    (same_data _ _ refl c.make_room.ensures.messages c.make_room.ensures.frames)) c.loop.auto.buffer
    (came_kept _ _ _ _ _ c.receive.result c.receive.new.buffer c.in-Ok-Some.from c.in-Ok-Some.len
    c.loop.invariant.2 c.receive.ensures.called
    (ap (data_of (g.S.Socket.state c.receive.new.self.socket)) c.receive.ensures.rest)
    (c.in-Ok-Some.is ∙ ap Ok c.in-Ok-Some.field-0-is) c.keep-is_kept.ensures.kept)
    (refl, refl, tt) tt
