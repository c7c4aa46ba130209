use Rattle.std.proofs.Common.{◌∙◌, ap, Ok}
use Rattle.fleet_site.specs.socket.Parts.{data_of}
use Rattle.fleet_site.proofs.Working.{waited_one, waited_none, waited_failed}
use Rattle.fleet_site.proofs.bursts.Bursts.wait.Goals as goal

pub returns-in-Ok-Some-clause-receives : goal.returns-in-Ok-Some-clause-receives
returns-in-Ok-Some-clause-receives g c =
    waited_one _ _ _ _ _ _ _ c.receive.result _ c.receive.new.buffer _ c.in-Ok-Some.from c.in-Ok-Some.len c.requires
    c.set_waiting.ensures c.receive.ensures.called
    (ap (data_of (g.S.Socket.state c.receive.new.self.socket)) c.receive.ensures.rest)
    (c.in-Ok-Some.is ∙ ap Ok c.in-Ok-Some.field-0-is) c.receive.auto.buffer c.receive_burst.ensures.receives

pub returns-in-Ok-None-clause-receives : goal.returns-in-Ok-None-clause-receives
returns-in-Ok-None-clause-receives g c =
    waited_none _ _ _ _ _ c.receive.result c.receive.new.buffer c.requires
    c.set_waiting.ensures c.receive.ensures.called
    (ap (data_of (g.S.Socket.state c.receive.new.self.socket)) c.receive.ensures.rest)
    (c.in-Ok-None.is ∙ ap Ok c.in-Ok-None.field-0-is)

pub returns-in-Err-clause-receives : goal.returns-in-Err-clause-receives
returns-in-Err-clause-receives g c =
    waited_failed _ _ _ _ _ c.receive.result c.receive.new.buffer c.in-Err.fault c.requires
    c.set_waiting.ensures c.receive.ensures.called
    (ap (data_of (g.S.Socket.state c.receive.new.self.socket)) c.receive.ensures.rest)
    c.in-Err.is
