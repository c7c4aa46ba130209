use Rattle.std.proofs.Common.{inl, inr, refl, arith}
use mathlib.Core.Bool.{false≢true}
use Rattle.fleet_observe.proofs.Walks.{reached_none, reached_more, reached_end, reached_fork, reached_long}
use Rattle.fleet_observe.proofs.reply.walk.has_walk.Goals as goal

pub loop-init : goal.loop-init
loop-init g c = record { reached = reached_none _ _ _; spelled = c.requires.spelled }

pub loop-preserved : goal.loop-preserved
loop-preserved g c =
    let on = rw (← c.alias.view_is, ← c.as_slice-at.ensures) at c.in-Alias.ensures in
    record {
      reached = reached_more _ _ _ _ _ _ c.loop.invariant.reached on.goes;
      spelled = on.spelled;
    }

pub returns-in-Records : goal.returns-in-Records
returns-in-Records g c = (
  λ _. reached_end _ _ _ _ _ c.loop.invariant.reached (omega arith)
      (inl c.in-Records.ensures.0),
  λ _. refl,
)

pub returns-in-Bare : goal.returns-in-Bare
returns-in-Bare g c = (
  λ _. reached_end _ _ _ _ _ c.loop.invariant.reached (omega arith)
      (inr c.in-Bare.ensures),
  λ _. refl,
)

pub returns-in-Fork : goal.returns-in-Fork
returns-in-Fork g c = (
  λ e. absurd (false≢true e),
  λ w. absurd
      (reached_fork _ _ _ _ _ c.loop.invariant.reached c.in-Fork.ensures w),
)

pub returns : goal.returns
returns g c = (
  λ e. absurd (false≢true e),
  λ w. absurd
      (reached_long _ _ _ _ _ c.loop.invariant.reached (omega arith) w),
)
