use Rattle.std.proofs.Common.{rules}
use Rattle.fleet_program.proofs.SystemAddr.{address_back}
use Rattle.fleet_program.proofs.udp_port.system_addr.Goals as goal

pub returns : goal.returns
returns c = address_back c.args.addr c.from_bits.result c.new.result (search rules)
    c.from_bits.ensures c.new.ensures.ip c.new.ensures.port
