use Rattle.std.proofs.Common.{◌≡◌, ℕ, List, ◌∙◌, ◌++◌, length, take, drop, ap}
use Rattle.std.specs.Char.{to_ascii_lowercase}
use Rattle.std.proofs.lemmas.List.{length-map}
use Rattle.fleet_name.specs.Name.{Spells, IsSpelling, labels_of, lower_all, lower}
use Rattle.fleet_name.proofs.Spelling.{written_back, lowered_spells, labels_of-Spells}
use Rattle.fleet_name.proofs.name.Name.from_spelled.Goals as goal

lowered_spelling : (n count : ℕ) (old new now : List ℕ) → n ≡ length old → now ≡ old
    → new ≡ lower now
    → IsSpelling old → count ≡ length (labels_of old)
    → Spells (take n (new ++ drop (length new) old)) count (lower_all (labels_of old))
lowered_spelling n count old new now same is wrote spelled counted =
    let e : new ≡ lower old = wrote ∙ ap lower is in
    let back = written_back n old new same (ap length e ∙ length-map old to_ascii_lowercase) in
    lowered_spells old (take n (new ++ drop (length new) old)) count spelled counted (back ∙ e)

pub invariant_of-result : goal.invariant_of-result
invariant_of-result g c =
    let s =
    lowered_spelling c.args.octets.len c.args.labels c.args.octets.items c.lower_octets.new.octets
    c.deref_mut.result.now c.args.octets.ok.0 c.deref_mut.ensures.value c.lower_octets.ensures
    c.requires.spelled c.requires.counted in
    rw (labels_of-Spells _ _ _ s) s

pub returns : goal.returns
returns g c =
    labels_of-Spells _ _ _
    (lowered_spelling c.args.octets.len c.args.labels c.args.octets.items c.lower_octets.new.octets
    c.deref_mut.result.now c.args.octets.ok.0 c.deref_mut.ensures.value c.lower_octets.ensures
    c.requires.spelled c.requires.counted)
