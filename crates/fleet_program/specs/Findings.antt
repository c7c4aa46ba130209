-- Faults that are listed of a configuration, its first one first.
-- Serves `run_check`.
use Rattle.std.specs.Prelude.{◌≡◌, List, [], ◌∷◌, ◌++◌, map, All, Option, Some, None, Ok}
use Rattle.toml.specs.Data.{Members}
use Rattle.fleet_pending.specs.declared.addr.Addr.{Addr}
use Rattle.fleet_site.specs.ConfigData.{IsConfigData}
use Rattle.fleet_site.specs.Config.{ConfigFails}
use Rattle.fleet_site.specs.declared.config.ConfigFault.{ConfigFault}
use Rattle.fleet_program.specs.Configuration.{ReadsTable, FirstFault, fault_of}
use Rattle.fleet_program.specs.declared.findings.Finding.{Finding}
use Rattle.fleet_program.specs.declared.findings.Stated.{Stated}
use Rattle.fleet_program.specs.declared.settings.Settings.{Settings}
use Rattle.fleet_program.specs.declared.settings.SettingsFault.{SettingsFault}

-- the faults that are listed of a table: none exactly where it is read as settings, and else its first
-- fault as the first one
abbrev pub ListsFaults : Members → List SettingsFault → Type 0
ListsFaults table [] = (s : Settings) × ReadsTable table (Ok s) × IsConfigData s.config
ListsFaults table (fault ∷ others) = FirstFault table fault

-- the faults that were found
abbrev pub faults_of : List Finding → List SettingsFault
faults_of findings = map (λ f. f.fault) findings

-- What follows, private contracts alone cite.

-- the addresses that are stated
abbrev pub addrs_of : List Stated → List Addr
addrs_of stated = map (λ s. s.addr) stated

-- of a part of a configuration no fault was added, where it is good; else some were, the first of them
-- the first fault of this part
pub data Adds (IsGood : Type 0) (IsFirst : SettingsFault → Type 0) (old new : List SettingsFault)
    : Type 0 where
  none : IsGood → new ≡ old → Adds IsGood IsFirst old new
  some : (fault : SettingsFault) → (others : List SettingsFault) → IsFirst fault
      → new ≡ old ++ fault ∷ others → Adds IsGood IsFirst old new

-- a fault, where there is one
abbrev pub listed : Option SettingsFault → List SettingsFault
listed None = []
listed (Some fault) = fault ∷ []

-- others were added
abbrev pub Extends : List SettingsFault → List SettingsFault → Type 0
Extends old new = (others : List SettingsFault) × (new ≡ old ++ others)

-- this fault was added some times, or never
abbrev pub AddsSome : SettingsFault → List SettingsFault → List SettingsFault → Type 0
AddsSome fault old new = (others : List SettingsFault)
    × (new ≡ old ++ others) × All (λ other. other ≡ fault) others

-- upstreams and peers make no configuration, with this first fault
abbrev pub FailsTogether : List Addr → List Addr → SettingsFault → Type 0
FailsTogether upstreams peers fault =
    (why : ConfigFault) × ConfigFails upstreams peers why × (fault ≡ fault_of why)
