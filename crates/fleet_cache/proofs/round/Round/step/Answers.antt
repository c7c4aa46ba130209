use Rattle.std.proofs.Common.{ap, subst, arith}
use Rattle.fleet_cache.specs.steps.Reclaimed.{AllLive}
use Rattle.fleet_cache.proofs.Rounds.{gone_by, gone_over, looked_on}
use Rattle.fleet_cache.proofs.round.Round.step.Goals as goal
use Rattle.fleet_cache.proofs.round.Round.step.Goals.{then-passed, else-passed}

pub returns-clause-gone : goal.returns-clause-gone
returns-clause-gone g c =
    let items = c.args.held.now in
    let at = c.args.self.now.cursor.key.items in
    let pass = c.pass-passed.ensures in
    let way = pass.passed c.requires.room in
    elim c.if-passed.branch [
      | then-passed w ↦ rw (w.self-is, w.held-is) (gone_over c.args.floor items at
          c.pass-passed.new.self.key.items c.pass-passed.result.soonest
          w.min-self-then-passed.result way pass.stops
          (omega (arith, c.min-self.ensures, w.min-self-then-passed.ensures))
          w.trim.new.held w.trim.ensures.own w.trim.ensures.reclaimed
          (subst (λ v. AllLive v c.args.floor items w.trim.new.held)
          (ap (λ k. k.items) w.key.ensures) w.trim.ensures.live)
          (omega (
            arith,
            w.min-self-then-passed.ensures,
            w.saturating_add-next.ensures,
            w.value.ensures.value,
          )))
      | else-passed w ↦ rw (w.self-is, w.held-is) (gone_by c.args.floor items at
          c.pass-passed.new.self.key.items c.pass-passed.result.soonest c.min-self.result
          way pass.stops (omega (arith, c.min-self.ensures))
          (pass.stopped c.requires.room w.if-passed.false))
    ]

pub returns-clause-looked : goal.returns-clause-looked
returns-clause-looked g c =
    let items = c.args.held.now in
    let at = c.args.self.now.cursor.key.items in
    let pass = c.pass-passed.ensures in
    let all = looked_on items at c.pass-passed.new.self.key.items c.args.left
    c.pass-passed.result.left c.min.result pass.stops (pass.looked c.requires.room)
    (omega (arith, c.min.ensures, c.saturating_sub.ensures)) in
    elim c.if-passed.branch [
      | then-passed w ↦ rw w.self-is all
      | else-passed w ↦ rw w.self-is all
    ]
