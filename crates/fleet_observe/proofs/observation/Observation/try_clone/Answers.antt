use Rattle.std.proofs.Common.{◌≡◌, sym, subst, List, ℕ}
use Rattle.fleet_observe.specs.Observation.{IsObservation}
use Rattle.fleet_observe.specs.BodyParts.{body_octets, IsBodyOf}
use Rattle.fleet_observe.proofs.Bodies.{same_octets, same_kind_of_body}
use Rattle.fleet_observe.proofs.observation.Observation.try_clone.Goals as goal

pub invariant_of-result : goal.invariant_of-result
invariant_of-result g c =
    let o = c.self.inside in
    let named : o.name ≡ c.in_ok-name.name = sym c.in_ok-name.ensures in
    let octets = same_octets o.body c.in_ok-body.body c.in_ok-body.ensures in
    let P : List (List ℕ) → Type 0 = λ n. IsObservation (record {
      kind = o.kind;
      name = n;
      rtype = o.rtype;
      body = body_octets o.body;
      rank = o.rank;
      stamp = o.stamp;
      life = o.life;
    }) in
    let Q : List ℕ → Type 0 = λ b. IsObservation (record {
      kind = o.kind;
      name = c.in_ok-name.name;
      rtype = o.rtype;
      body = b;
      rank = o.rank;
      stamp = o.stamp;
      life = o.life;
    }) in
    let R : List (List ℕ) → Type 0 = λ n. IsBodyOf o.kind n o.rtype o.body in (
      subst Q octets (subst P named c.self.invariant.0),
      same_kind_of_body o.body c.in_ok-body.body
          o.kind c.in_ok-name.name o.rtype c.in_ok-body.ensures (subst R named c.self.invariant.1),
    )
