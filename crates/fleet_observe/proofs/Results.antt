-- What is so however a call ends.
-- Serves `ns_sets`, `soa_for`, `observations`, `put_denial`, `put_links`, `put_ns`, `put_set`.
use Rattle.std.proofs.Common.{Result, Ok, Err}
use Rattle.std.specs.Result.{IfErr}

pub if_err : {X E : Type 0} (P : Type 0) (r : Result X E) → P → IfErr r (λ _. P)
if_err P (Ok x) is = tt
if_err P (Err e) is = is
