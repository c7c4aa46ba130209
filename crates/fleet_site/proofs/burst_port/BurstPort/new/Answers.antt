use Rattle.std.proofs.Common.{◌≡◌, [], IfSome, refl, sym, subst}
use Rattle.fleet_site.proofs.Flowing.{begin_noted, fresh_burst}
use Rattle.fleet_site.proofs.burst_port.BurstPort.new.Goals as goal

pub invariant_of-result : goal.invariant_of-result
invariant_of-result g c = record {
  flows = ∣ begin_noted _ _ _
      (subst (λ s. IfSome (g.S.Socket.state s).noted (λ calls. calls ≡ [])) (sym c.new.ensures.socket) c.requires.socket)
      c.requires.log refl c.new.ensures.idle c.new.ensures.window.0
      (fresh_burst _ _ c.new.ensures.burst.0 c.new.ensures.burst.1) c.new.ensures.window.1 c.new.ensures.dropped ∣₁;
}
