use Rattle.std.proofs.Common.{◌∙◌, refl, sym, ap, Ok, rules, arith}
use Rattle.fleet_site.proofs.Working.{fresh_has_room, not_so}
use Rattle.fleet_site.proofs.Busy.{begun, began_ends, took_ends, looks_end, looked_on_more, looked_fails, looked_shorter, takes_as}
use Rattle.fleet_site.proofs.bursts.Bursts.work.Goals as goal

pub returns-in-Err-clause-receives : goal.returns-in-Err-clause-receives
returns-in-Err-clause-receives g c = began_ends _ _ _ _ _ c.send_waiting.ensures.sent

pub returns-in-Ok-Some-clause-receives : goal.returns-in-Ok-Some-clause-receives
returns-in-Ok-Some-clause-receives g c =
    took_ends _ _ _ _ _ _ _ _ c.loop.invariant.0 c.loop.auto.buffer
    (takes_as _ _ _ _ _ _ (c.in-Ok-Some.is ∙ ap Ok c.in-Ok-Some.field-0-is) c.take_next.ensures.takes)

pub returns-in-Err-take_next-clause-receives : goal.returns-in-Err-take_next-clause-receives
returns-in-Err-take_next-clause-receives g c =
    took_ends _ _ _ _ _ _ _ _ c.loop.invariant.0 c.loop.auto.buffer c.in-Err-take_next.ensures.takes

pub returns-then-is_empty-clause-receives : goal.returns-then-is_empty-clause-receives
returns-then-is_empty-clause-receives g c =
    took_ends _ _ _ _ _ _ _ _ c.loop.invariant.0 c.loop.auto.buffer
    (takes_as _ _ _ _ _ _ (c.in-Ok-None.is ∙ ap Ok c.in-Ok-None.field-0-is) c.take_next.ensures.takes)

pub loop-init : goal.loop-init
loop-init g c = (begun _ _ _ c.send_waiting.ensures.sent, search rules, λ h. absurd (omega (arith, h)))

pub returns-in-Err-send_waiting-clause-receives : goal.returns-in-Err-send_waiting-clause-receives
returns-in-Err-send_waiting-clause-receives g c =
    looked_fails _ _ _ _ _ _ _ _ _ _ _ c.loop.invariant.0 c.loop.auto.buffer
    (takes_as _ _ _ _ _ _ (c.in-Ok-None.is ∙ ap Ok c.in-Ok-None.field-0-is) c.take_next.ensures.takes)
    c.pause.ensures.worked c.send_waiting-in-loop.ensures.sent

pub loop-preserved : goal.loop-preserved
loop-preserved g c = (
  looked_on_more _ _ _ _ _ _ _ _ _ c.loop.invariant.0 c.loop.auto.buffer
      (takes_as _ _ _ _ _ _ (c.in-Ok-None.is ∙ ap Ok c.in-Ok-None.field-0-is) c.take_next.ensures.takes)
      c.pause.ensures.worked c.send_waiting-in-loop.ensures.sent,
  search rules,
  (λ h. looked_shorter _ _ _ _ _ _ _ _ _ c.loop.invariant.0
      (takes_as _ _ _ _ _ _ (c.in-Ok-None.is ∙ ap Ok c.in-Ok-None.field-0-is) c.take_next.ensures.takes)
      (ap (λ o. o.waiting) c.pause.ensures.leaving)
      (c.send_waiting-in-loop.ensures.shorter (fresh_has_room _ c.pause.ensures.sent)
      (λ e. not_so _ _ c.if-is_empty.false c.is_empty.ensures.1 (sym (ap (λ o. o.waiting) c.pause.ensures.leaving) ∙ e)))),
)

pub returns-clause-receives : goal.returns-clause-receives
returns-clause-receives g c =
    looks_end _ _ _ _ _ _ _ _ c.loop.invariant.0 (search rules) c.loop.auto.buffer c.hand_on.ensures.handed refl
