use Rattle.fleet_program.proofs.NewConfig.{none_fails_of}
use Rattle.fleet_program.proofs.fleet.new_config.Goals as goal

pub unreachable-requires : goal.unreachable-requires
unreachable-requires g c = none_fails_of _ _ c.args.site c.args.count c.in-Err.field-0
    c.in_ok-upstreams.ensures c.in_ok-peers.ensures c.requires c.in-Err.ensures.value
