use Rattle.std.proofs.Common.{◌≡◌, ℕ, List, length}
use Rattle.fleet_name.specs.Name.{wire, IsName, IsUnder}
use Rattle.fleet_gossip.proofs.name.is_under.Given as goal

abbrev pub invariant-loop-rest : goal.invariant-loop-rest
invariant-loop-rest l = record {
  left : List (List ℕ);
  whole : l.rest ≡ wire left;
  named : IsName left;
  same : (n a : List (List ℕ)) → IsName n → l.fn.name ≡ wire n → l.fn.ancestor ≡ wire a
      → (IsUnder n a → IsUnder left a) × (IsUnder left a → IsUnder n a);
}

abbrev pub decreases-loop-rest : goal.decreases-loop-rest
decreases-loop-rest l = length l.rest
