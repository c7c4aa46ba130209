use Rattle.fleet_program.proofs.Address.{not_split, without_host, without_port, address_read}
use Rattle.fleet_program.proofs.words.address.Goals as goal

pub returns-in_err-host : goal.returns-in_err-host
returns-in_err-host c = rw c.from_residual.ensures (not_split c.args.word.now c.split_once.result
    c.split_once.ensures.cases c.in_err-host.was)

pub returns-in_err-host-2 : goal.returns-in_err-host-2
returns-in_err-host-2 c = rw c.from_residual-in_err-host-2.ensures
    (without_host c.args.word.now c.in_ok-host.host c.in_ok-host.port c.split_once.result
    c.parse.result c.split_once.ensures.cases c.in_ok-host.was c.parse.ensures.value
    c.in_err-host-2.ensures.value)

pub returns-in_err-port : goal.returns-in_err-port
returns-in_err-port c = rw c.from_residual-in_err-port.ensures
    (without_port c.args.word.now c.in_ok-host.host c.in_ok-host.port c.split_once.result
    c.split_once.ensures.cases c.in_ok-host.was c.in_err-port.ensures)

pub returns : goal.returns
returns c = address_read c.args.word.now c.in_ok-host.host c.in_ok-host.port c.split_once.result
    c.parse.result c.in_ok-host-2.host c.to_bits.result c.in_ok-port.port
    c.split_once.ensures.cases c.in_ok-host.was c.parse.ensures.value c.in_ok-host-2.ensures.value
    c.to_bits.ensures c.in_ok-port.ensures.0 c.in_ok-port.ensures.1
