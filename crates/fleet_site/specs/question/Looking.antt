-- What looking an answer up gives.
-- Serves `Site::ask`, `World::ask`.
use Rattle.std.specs.Prelude.{◌≡◌}
use Rattle.fleet_name.specs.Types.{OctetList}
use Rattle.fleet_site.specs.SiteModel.{SiteModel}
use Rattle.fleet_site.specs.question.Decision.{DecisionData, Dropped, Reply, Unread, Miss, Decides}
use Rattle.fleet_site.specs.declared.looked.Looked.{Looked}
use Rattle.fleet_site.specs.declared.looked.Looked.TheVariants.{Reply as LookedReply, Miss as LookedMiss, Dropped as LookedDropped}

-- what asking gives where this was decided
abbrev pub Shows : {A : Type 0} → DecisionData → Looked A → Type 0
Shows Dropped LookedDropped = Unit {0}
Shows (Reply octets) (LookedReply bytes) = bytes ≡ octets
Shows (Unread octets f) (LookedReply bytes) = bytes ≡ octets
Shows (Miss h q) LookedMiss = Unit {0}
Shows _ _ = ⊥

-- what asking a site gives, whatever waits for an upstream
abbrev pub Looks : {A : Type 0} → SiteModel → OctetList → Looked A → Type 0
Looks s octets looked = (v : DecisionData) × Decides s.taken s.clock octets v × Shows v looked
