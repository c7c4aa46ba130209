use Rattle.std.proofs.Common.{refl, ap, ◌∙◌, Ok}
use Rattle.fleet_site.specs.socket.Parts.{data_of}
use Rattle.fleet_site.proofs.Busy.{all_handed, waiting_handed, none_taken, came_past_room, took_as}
use Rattle.fleet_site.proofs.bursts.Bursts.take_next.Goals as goal

pub returns-in-Ok-true-clause-takes : goal.returns-in-Ok-true-clause-takes
returns-in-Ok-true-clause-takes g c =
    all_handed _ _ _ _ _ _ _ (took_as _ _ _ _ _ (c.in-Ok-true.is ∙ ap Ok c.in-Ok-true.field-0-test) c.take_in.ensures.took)
    c.take_in.auto.buffer c.hand_on.ensures.handed refl

pub returns-in-Some-clause-takes : goal.returns-in-Some-clause-takes
returns-in-Some-clause-takes g c =
    waiting_handed _ _ _ _ _ _ _ (took_as _ _ _ _ _ (c.in-Ok-false.is ∙ ap Ok c.in-Ok-false.field-0-test) c.take_in.ensures.took)
    c.take_in.auto.buffer c.in-Some.ensures.handed refl

pub returns-in-None-clause-takes : goal.returns-in-None-clause-takes
returns-in-None-clause-takes g c =
    came_past_room _ _ _ _ _ _ _ _ _ _ (took_as _ _ _ _ _ (c.in-Ok-false.is ∙ ap Ok c.in-Ok-false.field-0-test) c.take_in.ensures.took)
    c.in-None.ensures.handed refl
    c.receive.ensures.called (ap (data_of (g.S.Socket.state c.receive.new.self.socket)) c.receive.ensures.rest)
    c.receive.auto.buffer c.receive.ensures.within (c.hand_on-in-Ok-false.auto.buffer ∙ c.take_in.auto.buffer)

pub returns-in-Err-clause-takes : goal.returns-in-Err-clause-takes
returns-in-Err-clause-takes g c = none_taken _ _ _ _ _ c.in-Err.ensures.took
