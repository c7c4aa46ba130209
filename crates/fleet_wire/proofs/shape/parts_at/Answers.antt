use Rattle.std.proofs.Common.{◌≡◌, ◌+◌, ◌≤◌, ◌++◌, ◌∷◌, ◌∙◌, List, ℕ, length, take, drop, ap, arith, length-append}
use Rattle.std.proofs.lemmas.List.{length-take-le, length-drop}
use Rattle.fleet_name.specs.declared.bounds.TheConstants.{LONGEST_NAME}
use Rattle.fleet_name.specs.Name.{wire}
use Rattle.fleet_wire.specs.Shape.{room_of}
use Rattle.fleet_wire.specs.declared.shape.Part.TheVariants.{Plain, Name}
use Rattle.fleet_wire.proofs.Parts.{reads_within, part_at, plain_found, plain_fails, name_found, name_fails, no_more}
use mathlib.Core.Logic.{inr}
use Rattle.fleet_wire.proofs.shape.parts_at.Goals as goal
use Rattle.fleet_wire.proofs.shape.parts_at.Goals.{in-Plain+in_ok-octets_at-in-Plain, in-Name+in_ok-at-in-Name}

pub loop-part-preserved : goal.loop-part-preserved
loop-part-preserved c =
    let m = c.args.message.now in
    let parts = c.args.parts.now in
    let l = c.loop-part in
    let i = l.invariant in
    let k = l.part-index in
    elim c.match-part.branch [
      | in-Plain+in_ok-octets_at-in-Plain w ↦
          let n = w.in-Plain.count in
          let rest : drop k parts ≡ Plain n ∷ drop (k + 1) parts =
          part_at parts k _ _ (omega arith) w.in-Plain.is in
          let read = w.in_ok-octets_at-in-Plain.ensures in
          let wrote : c.match-part.octets.items ≡ l.octets.items ++ take n (drop l.at m) =
          rw w.octets-is
          (w.append_octets.ensures ∙ ap (λ (x : List ℕ). l.octets.items ++ x) read.1) in
          let size : length (take n (drop l.at m)) ≡ n =
          length-take-le n (drop l.at m) (omega (arith, length-drop l.at m, read.0)) in
          record {
            within = omega (arith, w.at-is, read.0);
            room =
                omega (
                  arith,
                  i.room,
                  ap room_of rest,
                  ap length wrote,
                  length-append l.octets.items (take n (drop l.at m)),
                  size,
                );
            found =
                plain_found m parts (drop k parts) (drop (k + 1) parts) c.args.offset l.at
                l.octets.items c.match-part.octets.items i.found i.fails n rest read.0 wrote
                c.match-part.at w.at-is;
            fails =
                λ f h. plain_fails m parts (drop k parts) (drop (k + 1) parts) c.args.offset l.at
                l.octets.items c.match-part.octets.items i.found i.fails n rest f
                (inr (read.0, rw w.at-is at h));
          }
      | in-Name+in_ok-at-in-Name w ↦
          let rest : drop k parts ≡ Name ∷ drop (k + 1) parts =
          part_at parts k _ _ (omega arith) w.in-Name.is in
          let named = w.in_ok-at-in-Name.ensures.found in
          let name = named.0 in let past = w.in_ok-at-in-Name.at in let read = named.1 in
          let wrote : c.match-part.octets.items ≡ l.octets.items ++ wire name =
          rw w.octets-is named.2 in
          let size : length c.match-part.octets.items ≤ length l.octets.items + LONGEST_NAME =
          rw w.octets-is w.append_name.ensures.room in
          record {
            within = rw w.at-is (reads_within _ _ _ _ read);
            room = omega (arith, i.room, ap room_of rest, size);
            found =
                λ o e r. name_found m parts (drop k parts) (drop (k + 1) parts) c.args.offset l.at
                l.octets.items c.match-part.octets.items i.found i.fails rest name past read wrote o
                e (rw w.at-is at r);
            fails =
                λ f h. name_fails m parts (drop k parts) (drop (k + 1) parts) c.args.offset l.at
                l.octets.items c.match-part.octets.items i.found i.fails rest f
                (inr (name, past, read, rw w.at-is at h));
          }
    ]

pub returns-clause-found : goal.returns-clause-found
returns-clause-found c =
    let l = c.loop-part in
    no_more c.args.message.now c.args.parts.now c.args.offset l.at l.octets.items l.part-index
    l.invariant.found (omega arith)
