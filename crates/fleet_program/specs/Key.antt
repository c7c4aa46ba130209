-- The key that a server is given.
-- Serves `run_program`, for `dnsfleet serve`.
use Rattle.std.specs.Prelude.{◌≡◌, Ok}
use Rattle.fleet_name.specs.Types.{OctetList}
use Rattle.hex.specs.Hex.{decode_sized}
use Rattle.fleet_program.specs.declared.serve.TheConstants.{KEY_LENGTH}

-- a text spells a key: KEY_LENGTH octets (32) as hexadecimal digits of either case, two for each
abbrev pub SpellsKey : OctetList → OctetList → Type 0
SpellsKey text key = decode_sized text KEY_LENGTH ≡ Ok key
