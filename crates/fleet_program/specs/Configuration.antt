-- What a configuration says, key by key, or its first fault. It is a text of TOML.
-- Serves `read_settings`.
use Rattle.std.specs.Prelude.{◌≡◌, ◌≢◌, ℕ, ◌<◌, ◌≤◌, ◌⊎◌, ⊤, List, [], ◌∷◌, length, codes, IsSome, IsUtf8, Option, Some, None, Result, Ok, Err, ℤ, pos, Vec}
use Rattle.std.specs.declared.alloc.Global.{Global}
use Rattle.fleet_name.specs.Types.{OctetList}
use Rattle.fleet_wire.specs.Types.{Seconds}
use Rattle.toml.specs.Data.{Data, Items, no_items, item, Members, no_members, member, get_member, as_str, as_array, as_integer}
use Rattle.toml.specs.Parse.{parse_document}
use Rattle.fleet_pending.specs.declared.addr.Addr.{Addr}
use Rattle.fleet_site.specs.Config.{ConfigFails}
use Rattle.fleet_site.specs.declared.config.ConfigFault.{ConfigFault}
use Rattle.fleet_site.specs.declared.config.ConfigFault.TheVariants as pair
use Rattle.fleet_program.specs.Words.{SpellsAddress}
use Rattle.fleet_program.specs.declared.fleet.TheConstants.{LOOPBACK}
use Rattle.fleet_program.specs.declared.settings.TheConstants.{LONGEST_CONFIGURATION, USUAL_SWEEP, LONGEST_SWEEP}
use Rattle.fleet_program.specs.declared.settings.Settings.{Settings}
use Rattle.fleet_program.specs.declared.settings.SettingsFault.{SettingsFault}
use Rattle.fleet_program.specs.declared.settings.SettingsFault.TheVariants.{TooLong, NotToml, UnknownKey, MissingKey, WrongKind, BadAddress, NotLoopback, BadSweep, NoUpstream, TooManyUpstreams, TooManyPeers, AddressTwice, OutOfMemory}

-- what a value is read as: what it says, or what is wrong with it
abbrev pub Reading : Type 0 → Type 0
Reading T = Result T SettingsFault

-- what the addresses of a `Vec` are read as
abbrev pub vec_read : Result (Vec Addr Global) SettingsFault → Reading (List Addr)
vec_read (Ok addrs) = Ok addrs.items
vec_read (Err fault) = Err fault

-- a key that a configuration may have
abbrev pub IsKey : OctetList → Type 0
IsKey key = (key ≡ codes "listen")
    ⊎ ((key ≡ codes "upstreams") ⊎ ((key ≡ codes "peers") ⊎ (key ≡ codes "sweep")))

-- a table has no key but those of a configuration
abbrev pub HasKeys : Members → Type 0
HasKeys no_members = ⊤
HasKeys (member key value rest) = IsKey key × HasKeys rest

-- what a text is read as that is to spell an address; a value that is no text is of the wrong kind
abbrev pub ReadsText : Option OctetList → Reading Addr → Type 0
ReadsText None (Ok addr) = ⊥
ReadsText None (Err fault) = fault ≡ WrongKind
ReadsText (Some text) (Ok addr) = SpellsAddress text addr
ReadsText (Some text) (Err fault) =
    (fault ≡ BadAddress) × ((addr : Addr) → SpellsAddress text addr → ⊥)

-- what a value is read as that is to be an address: a text that spells one
abbrev pub ReadsAddress : Data → Reading Addr → Type 0
ReadsAddress value reading = ReadsText (as_str value) reading

-- what the value of `listen` is read as, or its absence: it has to be there, and be an address of
-- 127.0.0.1
abbrev pub ReadsListen : Option Data → Reading Addr → Type 0
ReadsListen None reading = reading ≡ Err MissingKey
ReadsListen (Some value) (Ok addr) = ReadsAddress value (Ok addr) × (addr.host ≡ LOOPBACK)
ReadsListen (Some value) (Err fault) = ReadsAddress value (Err fault)
    ⊎ ((addr : Addr) × ReadsAddress value (Ok addr) × (addr.host ≢ LOOPBACK)
    × (fault ≡ NotLoopback))

-- a list whose entries are all texts
abbrev pub AreTexts : Items → Type 0
AreTexts no_items = ⊤
AreTexts (item value rest) = IsSome (as_str value) × AreTexts rest

-- the addresses that the texts of a list spell, in their order
abbrev pub SpellAddresses : Items → List Addr → Type 0
SpellAddresses no_items [] = ⊤
SpellAddresses no_items (addr ∷ addrs) = ⊥
SpellAddresses (item value rest) [] = ⊥
SpellAddresses (item value rest) (addr ∷ addrs) =
    ReadsAddress value (Ok addr) × SpellAddresses rest addrs

-- what a list of texts is read as, entry by entry; memory may run out then
abbrev pub ReadsTexts : Items → Reading (List Addr) → Type 0
ReadsTexts items (Ok addrs) = SpellAddresses items addrs
ReadsTexts items (Err fault) = (fault ≡ OutOfMemory)
    ⊎ ((fault ≡ BadAddress) × ((addrs : List Addr) → SpellAddresses items addrs → ⊥))

-- what a list is read as: that each entry is a text is looked at before any is read
abbrev pub ReadsItems : Option Items → Reading (List Addr) → Type 0
ReadsItems None reading = reading ≡ Err WrongKind
ReadsItems (Some items) (Ok addrs) = SpellAddresses items addrs
ReadsItems (Some items) (Err fault) = ((AreTexts items → ⊥) × (fault ≡ WrongKind))
    ⊎ (AreTexts items × ReadsTexts items (Err fault))

-- what the value of `upstreams` is read as, or its absence: it has to be there
abbrev pub ReadsUpstreams : Option Data → Reading (List Addr) → Type 0
ReadsUpstreams None reading = reading ≡ Err MissingKey
ReadsUpstreams (Some value) reading = ReadsItems (as_array value) reading

-- what the value of `peers` is read as, or its absence: without it there are none
abbrev pub ReadsPeers : Option Data → Reading (List Addr) → Type 0
ReadsPeers None reading = reading ≡ Ok []
ReadsPeers (Some value) reading = ReadsItems (as_array value) reading

-- what a value is read as that is to be a number of seconds: a whole number of 0 to LONGEST_SWEEP
abbrev pub ReadsNumber : Option ℤ → Reading ℕ → Type 0
ReadsNumber None reading = reading ≡ Err WrongKind
ReadsNumber (Some number) (Ok sweep) = (number ≡ pos sweep) × (sweep ≤ LONGEST_SWEEP)
ReadsNumber (Some number) (Err fault) =
    (fault ≡ BadSweep) × ((sweep : Seconds) → number ≡ pos sweep → LONGEST_SWEEP < sweep)

-- what the value of `sweep` is read as, or its absence: without it there are USUAL_SWEEP seconds
-- between sweeps
abbrev pub ReadsSweep : Option Data → Reading ℕ → Type 0
ReadsSweep None reading = reading ≡ Ok USUAL_SWEEP
ReadsSweep (Some value) reading = ReadsNumber (as_integer value) reading

-- the fault of a configuration for that of its upstreams and peers together
abbrev pub fault_of : ConfigFault → SettingsFault
fault_of pair.NoUpstream = NoUpstream
fault_of pair.TooManyUpstreams = TooManyUpstreams
fault_of pair.TooManyPeers = TooManyPeers
fault_of pair.SameAddress = AddressTwice

-- the value of the key `listen`, if the table has it
abbrev pub listen_in : Members → Option Data
listen_in table = get_member (codes "listen") table

-- the value of the key `upstreams`, if the table has it
abbrev pub upstreams_in : Members → Option Data
upstreams_in table = get_member (codes "upstreams") table

-- the value of the key `peers`, if the table has it
abbrev pub peers_in : Members → Option Data
peers_in table = get_member (codes "peers") table

-- the value of the key `sweep`, if the table has it
abbrev pub sweep_in : Members → Option Data
sweep_in table = get_member (codes "sweep") table

-- what the keys of a table say, where each of them is read without a fault
pub record TableSays (table : Members) (listen : Addr) (upstreams peers : List Addr) (sweep : Seconds)
    : Type 0 where
  pub keys : HasKeys table
  pub in_listen : ReadsListen (listen_in table) (Ok listen)
  pub in_upstreams : ReadsUpstreams (upstreams_in table) (Ok upstreams)
  pub in_peers : ReadsPeers (peers_in table) (Ok peers)
  pub in_sweep : ReadsSweep (sweep_in table) (Ok sweep)

-- a table has no fault of its keys, and none of `listen`
abbrev pub ListenIsRead : Members → Type 0
ListenIsRead table = HasKeys table × ((listen : Addr) × ReadsListen (listen_in table) (Ok listen))

-- a table has no fault of its keys, and none up to `upstreams`
abbrev pub UpstreamsAreRead : Members → Type 0
UpstreamsAreRead table = ListenIsRead table
    × ((upstreams : List Addr) × ReadsUpstreams (upstreams_in table) (Ok upstreams))

-- a table has no fault of its keys, and none up to `peers`
abbrev pub PeersAreRead : Members → Type 0
PeersAreRead table =
    UpstreamsAreRead table × ((peers : List Addr) × ReadsPeers (peers_in table) (Ok peers))

-- the first fault of a table: of its keys, then of their values, key by key in this order, then of
-- upstreams and peers together
pub data FirstFault (table : Members) (fault : SettingsFault) : Type 0 where
  of_keys : (HasKeys table → ⊥) → fault ≡ UnknownKey → FirstFault table fault
  of_listen : HasKeys table → ReadsListen (listen_in table) (Err fault) → FirstFault table fault
  of_upstreams : ListenIsRead table → ReadsUpstreams (upstreams_in table) (Err fault)
      → FirstFault table fault
  of_peers : UpstreamsAreRead table → ReadsPeers (peers_in table) (Err fault)
      → FirstFault table fault
  of_sweep : PeersAreRead table → ReadsSweep (sweep_in table) (Err fault) → FirstFault table fault
  together : (listen : Addr) → (upstreams peers : List Addr)
      → (sweep : Seconds) → TableSays table listen upstreams peers sweep
      → (why : ConfigFault) → ConfigFails upstreams peers why → fault ≡ fault_of why
      → FirstFault table fault

-- what a table is read as: settings, or its first fault
abbrev pub ReadsTable : Members → Reading Settings → Type 0
ReadsTable table (Ok s) = TableSays table s.listen s.config.upstreams s.config.peers s.sweep
ReadsTable table (Err fault) = FirstFault table fault

-- octets are a table: UTF-8 in the grammar of TOML
pub record IsTable (octets : OctetList) (table : Members) : Type 0 where
  pub text : IsUtf8 octets
  pub document : parse_document octets ≡ Some table

-- what octets are read as: settings, or the first fault. Their number is looked at first, and memory
-- may run out while they are read
pub data ReadsSettings (octets : OctetList) (reading : Reading Settings) : Type 0 where
  too_long : LONGEST_CONFIGURATION < length octets → reading ≡ Err TooLong
      → ReadsSettings octets reading
  no_memory : length octets ≤ LONGEST_CONFIGURATION → reading ≡ Err OutOfMemory
      → ReadsSettings octets reading
  no_toml : length octets ≤ LONGEST_CONFIGURATION
      → ((table : Members) → IsTable octets table → ⊥) → reading ≡ Err NotToml
      → ReadsSettings octets reading
  in_table : length octets ≤ LONGEST_CONFIGURATION → (table : Members) → IsTable octets table
      → ReadsTable table reading → ReadsSettings octets reading
