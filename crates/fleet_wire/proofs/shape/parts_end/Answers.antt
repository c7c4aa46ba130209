use mathlib.Core.Logic.{inr}
use Rattle.std.proofs.Common.{◌≡◌, ◌+◌, ◌≤◌, ◌++◌, ◌∷◌, [], length, take, drop, refl, arith}
use Rattle.fleet_name.specs.Name.{wire}
use Rattle.fleet_wire.specs.declared.shape.Part.TheVariants.{Plain, Name}
use Rattle.fleet_wire.proofs.Parts.{reads_within, part_at, plain_found, plain_fails, name_found, name_fails, no_more}
use Rattle.fleet_wire.proofs.shape.parts_end.Goals as goal
use Rattle.fleet_wire.proofs.shape.parts_end.Goals.{in-Plain+else-message-at, in-Name+in_ok-at-in-Name}

pub loop-part-init : goal.loop-part-init
loop-part-init c = record {
  before = [];
  within = c.requires.within;
  found = λ o e r. r;
  fails = λ f h. h;
}

pub loop-part-preserved : goal.loop-part-preserved
loop-part-preserved c =
    let m = c.args.message.now in
    let parts = c.args.parts.now in
    let l = c.loop-part in
    let i = l.invariant in
    let k = l.part-index in
    elim c.match-part.branch [
      | in-Plain+else-message-at w ↦
          let n = w.in-Plain.count in
          let rest : drop k parts ≡ Plain n ∷ drop (k + 1) parts =
          part_at parts k _ _ (omega arith) w.in-Plain.is in
          let fits : l.at + n ≤ length m = omega (arith, i.within, w.if-message-at.false) in
          let octets = i.before ++ take n (drop l.at m) in
          record {
            before = octets;
            within = omega (arith, w.at-is, fits);
            found =
                plain_found m parts (drop k parts) (drop (k + 1) parts) c.args.offset l.at i.before
                octets i.found i.fails n rest fits refl c.match-part.at w.at-is;
            fails =
                λ f h. plain_fails m parts (drop k parts) (drop (k + 1) parts) c.args.offset l.at
                i.before octets i.found i.fails n rest f (inr (fits, rw w.at-is at h));
          }
      | in-Name+in_ok-at-in-Name w ↦
          let rest : drop k parts ≡ Name ∷ drop (k + 1) parts =
          part_at parts k _ _ (omega arith) w.in-Name.is in
          let named = w.in_ok-at-in-Name.ensures.found in
          let name = named.0 in let past = w.in_ok-at-in-Name.at in let read = named.1 in
          let octets = i.before ++ wire name in
          record {
            before = octets;
            within = rw w.at-is (reads_within _ _ _ _ read);
            found =
                λ o e r. name_found m parts (drop k parts) (drop (k + 1) parts) c.args.offset l.at
                i.before octets i.found i.fails rest name past read refl o e (rw w.at-is at r);
            fails =
                λ f h. name_fails m parts (drop k parts) (drop (k + 1) parts) c.args.offset l.at
                i.before octets i.found i.fails rest f (inr (name, past, read, rw w.at-is at h));
          }
    ]

pub returns-clause-found : goal.returns-clause-found
returns-clause-found c =
    let l = c.loop-part in (
      l.invariant.before,
      no_more c.args.message.now c.args.parts.now c.args.offset l.at l.invariant.before
          l.part-index l.invariant.found (omega arith),
    )
