-- The parts of bodies, and how many octets they have.
-- Serves `Observation::try_clone`, `push_rdatas`, `is_positive_body`.
use Rattle.std.proofs.Common.{◌≡◌, ℕ, ◌≤◌, List, [], ◌∷◌, length, refl, ap, ◌∙◌, subst, arith, length-append}
use Rattle.std.specs.List.{flat_map}
use Rattle.fleet_observe.specs.Body.{octets_with_length, positive_body, negative_body, AreRdatas, IsDenial}
use Rattle.fleet_observe.specs.BodyParts.{body_octets, IsBodyOf, AreSameParts}
use Rattle.fleet_observe.specs.declared.observation.kind.Kind.{Kind}
use Rattle.fleet_observe.specs.declared.observation.body.Body.{Body}
use Rattle.fleet_observe.specs.declared.observation.body.Body.TheVariants.{Records, Authority, Nothing}

-- there are no more RDATAs than octets
pub fewer_than_octets : (rdatas : List (List ℕ))
    → length rdatas ≤ length (flat_map octets_with_length rdatas)
fewer_than_octets [] = omega arith
fewer_than_octets (x ∷ xs) = omega (
  arith,
  fewer_than_octets xs,
  length-append
      (octets_with_length x) (flat_map octets_with_length xs),
)

pub same_octets : {A : Type 0} (a b : Body A) → AreSameParts a b → body_octets a ≡ body_octets b
same_octets (Records rdatas) (Records others) e = ap positive_body e
same_octets (Records rdatas) (Authority owner rdata) e = absurd e
same_octets (Authority owner rdata) (Records others) e = absurd e
same_octets (Authority owner rdata) (Authority other_owner other_rdata) e =
    ap (λ n. negative_body n rdata) e.0 ∙ ap (negative_body other_owner) e.1
same_octets (Records rdatas) Nothing e = absurd e
same_octets (Authority owner rdata) Nothing e = absurd e
same_octets Nothing (Records others) e = absurd e
same_octets Nothing (Authority owner rdata) e = absurd e
same_octets Nothing Nothing e = refl

pub same_kind_of_body : {A : Type 0} (a b : Body A) (kind : Kind) (name : List (List ℕ))
    (rtype : ℕ) → AreSameParts a b → IsBodyOf kind name rtype a → IsBodyOf kind name rtype b
same_kind_of_body (Records rdatas) (Records others) kind name rtype e h =
    (h.0, subst (AreRdatas rtype) e h.1)
same_kind_of_body (Records rdatas) (Authority owner rdata) kind name rtype e h = absurd e
same_kind_of_body (Authority owner rdata) (Records others) kind name rtype e h = absurd e
same_kind_of_body (Authority owner rdata) (Authority other_owner other_rdata) kind name rtype e h =
    (h.0, subst (IsDenial name other_owner) e.1 (subst (λ n. IsDenial name n rdata) e.0 h.1))
same_kind_of_body (Records rdatas) Nothing kind name rtype e h = absurd e
same_kind_of_body (Authority owner rdata) Nothing kind name rtype e h = absurd e
same_kind_of_body Nothing (Records others) kind name rtype e h = absurd e
same_kind_of_body Nothing (Authority owner rdata) kind name rtype e h = absurd e
same_kind_of_body Nothing Nothing kind name rtype e h = h
