use Rattle.std.proofs.Common.{◌≡◌, ◌↔◌, Bool, true, false, not, IsTrue, List, Option, Some, None, is_some, Bor, [], ◌∷◌, sym, refl, ◌∙◌, subst}
use mathlib.Core.Bool.{false≢true}
use Rattle.std.specs.Iterator.{YieldsFirstRef}
use Rattle.fleet_observe.specs.Observation.{ObservationData}
use Rattle.fleet_cache.proofs.cache.Cache.is_empty.Goals as goal

-- nothing comes where nothing is left
none_comes : (items new : List ObservationData) (o : Option (Bor ObservationData)) (b : Bool)
    → YieldsFirstRef (λ s. s) items o new → is_some o ≡ not b → IsTrue b ↔ (items ≡ [])
none_comes items new None true steps e = ((λ h. steps.0), λ h. refl)
none_comes items new None false steps e = absurd (false≢true e)
none_comes items new (Some x) true steps e = absurd (false≢true (sym e))
none_comes items new (Some x) false steps e =
    ((λ h. absurd (false≢true h)), λ h. let z : x.now ∷ new ≡ [] = sym steps ∙ h in absurd (cc))

pub returns : goal.returns
returns g c = subst (λ v. IsTrue c.is_none.result ↔ (v ≡ [])) c.items.ensures.items
    (none_comes c.items.result c.next.new.self c.next.result c.is_none.result c.next.ensures.steps
    c.is_none.ensures)
