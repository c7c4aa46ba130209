-- Values that meet the checks make observations.
-- Serves `Observation::negative`.
use Rattle.std.proofs.Common.{ℕ, ◌≤◌, inl, inr, List, ap, refl, arith, Option, Some, None}
use Rattle.fleet_name.specs.Name.{IsName}
use Rattle.fleet_observe.proofs.Lemmas.{any_rank}
use Rattle.fleet_observe.specs.Body.{negative_body}
use Rattle.fleet_observe.specs.Observation.{IsObservation, IsNegativeKind, kind_number}
use Rattle.fleet_observe.specs.Checks.{MakesNegative, denied_kind, denied_type}
use Rattle.fleet_observe.specs.declared.bounds.TheConstants.{LATEST}

pub negative_lawful : (name : List (List ℕ)) (rtype : Option ℕ) (rank stamp life : ℕ)
    (owner : List (List ℕ)) (rdata : List ℕ) → IsName name → stamp ≤ LATEST
    → MakesNegative name rtype rank life owner rdata
    → IsObservation (record {
      kind = denied_kind rtype;
      name = name;
      rtype = denied_type rtype;
      body = negative_body owner rdata;
      rank = rank;
      stamp = stamp;
      life = life;
    })
negative_lawful name None rank stamp life owner rdata named early made = record {
  named = named;
  rank = any_rank rank made.ranked;
  stamped = early;
  life = (made.lasts.0, omega (arith, made.lasts.1));
  positive = λ k. absurd (omega (arith, ap kind_number k));
  no_data = λ k. absurd (omega (arith, ap kind_number k));
  name_error = λ k. (
    record {
      rank = made.ranked;
      life = made.lasts;
      body = record {
        owner = owner;
        rdata = rdata;
        lawful = made.body;
        octets = refl;
      };
    },
    refl,
  );
  flush = λ k. absurd (omega (arith, ap kind_number k));
}
negative_lawful name (Some rtype) rank stamp life owner rdata named early made = record {
  named = named;
  rank = any_rank rank made.ranked;
  stamped = early;
  life = (made.lasts.0, omega (arith, made.lasts.1));
  positive = λ k. absurd (omega (arith, ap kind_number k));
  no_data = λ k. (
    record {
      rank = made.ranked;
      life = made.lasts;
      body = record {
        owner = owner;
        rdata = rdata;
        lawful = made.body;
        octets = refl;
      };
    },
    made.typed,
  );
  name_error = λ k. absurd (omega (arith, ap kind_number k));
  flush = λ k. absurd (omega (arith, ap kind_number k));
}

pub denied_negative : (rtype : Option ℕ) → IsNegativeKind (denied_kind rtype)
denied_negative None = inl refl
denied_negative (Some rtype) = inr refl
