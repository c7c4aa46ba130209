use Rattle.std.proofs.Common.{sym, ◌∙◌}
use mathlib.Core.Bool.{false≢true}
use Rattle.fleet_site.specs.steps.Sends.{sweep_outcome}
use Rattle.fleet_site.proofs.ServerTurns.{swept_now, swept_not, stepped_sweep}
use Rattle.fleet_site.proofs.server.sweep_if_due.Goals as goal

pub returns-then-is_sweep_due : goal.returns-then-is_sweep_due
returns-then-is_sweep_due g c =
    swept_now _ _ c.args.every c.args.now c.unwrap_or-since.result c.args.run.now.swept
    c.args.site.now c.args.run.now.report c.carry_out_sweep.new.report c.peers.result.now
    (sweep_outcome c.sweep.result) c.unwrap_or-since.ensures
    (c.is_sweep_due.ensures.0 c.if-is_sweep_due.true) c.peers.ensures
    (stepped_sweep _ _ c.sweep.ensures.sweeps) c.carry_out_sweep.ensures

pub returns-else-is_sweep_due : goal.returns-else-is_sweep_due
returns-else-is_sweep_due g c =
    swept_not _ c.args.every c.args.now c.unwrap_or-since.result c.args.run.now.swept
    c.args.site.now c.args.run.now.report c.unwrap_or-since.ensures
    (λ due. false≢true (sym c.if-is_sweep_due.false ∙ c.is_sweep_due.ensures.1 due))
