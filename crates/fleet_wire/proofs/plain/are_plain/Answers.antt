use Rattle.std.proofs.Common.{◌≡◌, ◌+◌, ◌∷◌, List, ℕ, drop, refl, sym, subst, arith}
use Rattle.fleet_wire.specs.Shape.{ArePlain}
use Rattle.fleet_wire.specs.declared.shape.Part.{Part}
use Rattle.fleet_wire.specs.declared.shape.Part.TheVariants.{Plain, Name}
use Rattle.fleet_wire.proofs.Parts.{part_at}
use Rattle.fleet_wire.proofs.PlainNames.{plain_here, plain_back, name_back}
use Rattle.fleet_wire.proofs.plain.are_plain.Goals as goal
use Rattle.fleet_wire.proofs.plain.are_plain.Goals.{in-Plain+else-rest-count, in-Name+in-Some}

pub loop-part-preserved : goal.loop-part-preserved
loop-part-preserved c =
    let parts = c.args.parts.now in
    let l = c.loop-part in
    let i = l.invariant in
    let k = l.part-index in
    let rest = l.rest.now in
    elim c.match-part.branch [
      | in-Plain+else-rest-count w ↦
          let n = w.in-Plain.count in
          let here_is : drop k parts ≡ Plain n ∷ drop (k + 1) parts =
          part_at parts k _ _ (omega arith) w.in-Plain.is in
          let now : c.match-part.rest.now ≡ drop n rest = rw w.rest-is w.split_at.ensures.back in
          let test = w.if-rest-count.false in
          record {
            yes =
                λ h. i.yes (subst (λ (x : List Part). ArePlain x rest) (sym here_is)
                (plain_here n (drop (k + 1) parts) rest test
                (subst (λ (x : List ℕ). ArePlain (drop (k + 1) parts) x) now h)));
            no =
                λ h. subst (λ (x : List ℕ). ArePlain (drop (k + 1) parts) x) (sym now)
                (plain_back n (drop (k + 1) parts) rest
                (subst (λ (x : List Part). ArePlain x rest) here_is (i.no h)));
          }
      | in-Name+in-Some w ↦
          let here_is : drop k parts ≡ Name ∷ drop (k + 1) parts =
          part_at parts k _ _ (omega arith) w.in-Name.is in
          let named = w.in-Some.ensures in let others = w.in-Some.others.now in
          let now : c.match-part.rest.now ≡ others = rw w.rest-is refl in
          record {
            yes =
                λ h. i.yes (subst (λ (x : List Part). ArePlain x rest) (sym here_is) (
                  named.0,
                  others,
                  named.2,
                  named.1,
                  subst (λ (x : List ℕ). ArePlain (drop (k + 1) parts) x) now h,
                ));
            no =
                λ h. subst (λ (x : List ℕ). ArePlain (drop (k + 1) parts) x) (sym now)
                (name_back named.0 (drop (k + 1) parts) rest others named.1 named.2
                (subst (λ (x : List Part). ArePlain x rest) here_is (i.no h)));
          }
    ]
