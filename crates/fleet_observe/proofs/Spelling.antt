-- Octets that are names in full.
-- Serves `digest`, `denied_at`, `rrset_at`, `digest_along_walk`, what `Kept`, `Walks` serve, and
-- fleet_site, fleet_world.
use Rattle.std.proofs.Common.{◌≡◌, ℕ, List, ◌++◌, sym, ap, ◌∙◌, append-nil}
use Rattle.fleet_name.specs.Name.{wire, IsName}
use Rattle.fleet_name.proofs.Lemmas.{labels_of-spelled}
use Rattle.fleet_wire.specs.Shape.{IsPlain}
use Rattle.fleet_wire.specs.declared.rtype.TheConstants.{CNAME}
use Rattle.fleet_observe.specs.RrSet.{SpellsName}

-- the octets of a name spell it
pub spells : (octets : List ℕ) (name : List (List ℕ)) → IsName name → octets ≡ wire name
    → SpellsName octets
spells octets name named e =
    let is = labels_of-spelled octets name named.labels e in
    record { whole = e ∙ ap wire (sym is); named = rw is named }

-- plain RDATA of an alias is a name
pub plain_alias : (d : List ℕ) → IsPlain CNAME d → SpellsName d
plain_alias d plain =
    spells d plain.0 plain.3
    (plain.2 ∙ (ap (λ (x : List ℕ). wire plain.0 ++ x) plain.4 ∙ append-nil (wire plain.0)))
