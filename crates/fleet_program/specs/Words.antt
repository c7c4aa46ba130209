-- What the words of a line say.
-- Serves `run_script`, and `read_settings` for addresses.
use Rattle.std.specs.Prelude.{◌≡◌, ◌==◌, ◌≢◌, ℕ, ◌≤◌, ◌⊎◌, ◌++◌, List, [], length, codes, nat_eq, IsFalse, Ok}
use Rattle.std.specs.Char.{is_ascii_digit}
use Rattle.std.specs.List.{AllPass, starts_with, slice_split}
use Rattle.std.specs.Int.{w32, to_be_bytes}
use Rattle.std.specs.Net.Grammar.{IsDotted}
use Rattle.std.specs.Str.Parse.{digits_value}
use Rattle.fleet_name.specs.Types.{Labels, OctetList}
use Rattle.fleet_name.specs.Name.{wire, lower, IsName}
use Rattle.fleet_pending.specs.declared.addr.Addr.{Addr}
use Rattle.hex.specs.Hex.{decode_of}
use Rattle.fleet_program.specs.declared.words.TheConstants.{MOST_DIGITS, LARGEST_16_BITS}

-- the words of a line: what stands between its spaces
abbrev pub words_of : OctetList → List OctetList
words_of line = slice_split (λ octet. octet == 32) line

-- a word is a whole number: 1 to MOST_DIGITS decimal digits (13)
pub record IsNumber (word : OctetList) : Type 0 where
  pub some : 1 ≤ length word
  pub short : length word ≤ MOST_DIGITS
  pub digits : AllPass is_ascii_digit word

-- what a word of digits counts
abbrev pub number_of : OctetList → ℕ
number_of word = digits_value 10 word

-- a word is a port: 1 to 65535, without leading zeros
pub record IsPort (word : OctetList) : Type 0 where
  pub number : IsNumber word
  pub plain : IsFalse (starts_with nat_eq word (codes "0"))
  pub fits : number_of word ≤ LARGEST_16_BITS

-- a word spells an address: four numbers below 256 without leading zeros and dots between them, a
-- colon, and a port
pub record SpellsAddress (word : OctetList) (addr : Addr) : Type 0 where
  pub host : OctetList
  pub port : OctetList
  pub spelled : word ≡ host ++ codes ":" ++ port
  pub dotted : IsDotted host (to_be_bytes w32 addr.host)
  pub port_number : IsPort port
  pub port_value : addr.port ≡ number_of port

-- a word spells octets: `-` for none, else two hexadecimal digits of either case for each
abbrev pub SpellsOctets : OctetList → OctetList → Type 0
SpellsOctets word octets =
    ((word ≡ codes "-") × (octets ≡ [])) ⊎ ((word ≢ []) × (decode_of word ≡ Ok octets))

-- octets are a name in full, its letters of either case (RFC 1035 3.1)
pub record IsNameWord (octets : OctetList) (name : Labels) : Type 0 where
  pub named : IsName name
  pub whole : lower octets ≡ wire name
