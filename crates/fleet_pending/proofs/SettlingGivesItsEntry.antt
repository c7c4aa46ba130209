-- What settling gives back.
-- Serves law `settling_gives_its_entry`.
use Rattle.std.proofs.Common.{◌≡◌, Some, None, sym, ◌∙◌, subst, ap}
use Rattle.std.specs.List.{remove}
use Rattle.fleet_name.specs.Places.{At}
use Rattle.fleet_pending.specs.Settled.{SettlesItsEntry}
use Rattle.fleet_name.proofs.Lemmas.{at_same}

pub settles_its_entry : SettlesItsEntry
settles_its_entry o n i id e None h t u s = absurd (s.0 i e t u)
settles_its_entry o n i id e (Some x) h t u s =
    let z : s.0 ≡ i = h.ids s.0 i x e s.1 t (s.2 ∙ sym u) in
    let y : x ≡ e = at_same o.entries i x e (subst (λ k. At o.entries k x) z s.1) t in
    (ap (λ v. Some v) y, s.3 ∙ ap (λ k. record o { entries = remove o.entries k }) z)
