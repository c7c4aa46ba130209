-- What a site answers where a name is an alias (RFC 1034 3.6.2, RFC 1035 3.3.1).
-- Serves `run_withdraw`.
use Rattle.fleet_name.specs.Types.{Labels, OctetList}
use Rattle.fleet_name.specs.Name.{wire}
use Rattle.fleet_wire.specs.Message.{MessageData, IsReply}
use Rattle.fleet_wire.specs.declared.rtype.TheConstants.{CNAME}
use Rattle.fleet_observe.specs.RrSet.{InSet}

-- octets are a reply that says its question's name to be an alias of the target
abbrev pub SaysAlias : OctetList → Labels → Type 0
SaysAlias octets target = (r : MessageData) × IsReply octets r
    × InSet r.answer r.question.name CNAME (wire target)
