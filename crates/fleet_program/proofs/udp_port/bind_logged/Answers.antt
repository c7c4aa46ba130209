use Rattle.std.proofs.Common.{sym, subst}
use Rattle.fleet_program.specs.Socket.{IsAt}
use Rattle.fleet_program.proofs.udp_port.bind_logged.Goals as goal

-- the port has the socket that was bound
pub returns-in-Ok-clause-address : goal.returns-in-Ok-clause-address
returns-in-Ok-clause-address g c =
    subst (λ socket. IsAt c.args.addr socket.address) (sym c.new.ensures.socket) c.in-Ok.ensures.address
