-- How far a text was read as a name.
-- Serves `name_in`.
use Rattle.std.proofs.Common.{◌≡◌, ◌≢◌, ℕ, ◌<◌, [], ◌∷◌, ◌++◌, length, map, drop, get_or, drop-cons, sym, ap, ap₂, ◌∙◌, subst, append_assoc, arith}
use Rattle.std.proofs.lemmas.List.{map-append, append-nil}
use Rattle.fleet_name.specs.Types.{Labels, OctetList}
use Rattle.fleet_name.specs.Name.{lower}
use Rattle.fleet_program.specs.NameText.{SpellsLabels, SpellsName, Begins}
use Rattle.fleet_program.specs.NameText.SpellsLabels.{nothing, longer, at_dot}
use Rattle.fleet_program.specs.NameText.SpellsName.{ended, open_ended}

-- what was read of a text, up to `rest`, spells labels, which the name has in lower case, and the
-- first octets of one more
pub record IsReadTo (text rest label : OctetList) (name : Labels) : Type 0 where
  pub read : OctetList
  pub labels : Labels
  pub whole : text ≡ read ++ rest
  pub spelled : SpellsLabels read labels label
  pub lowered : name ≡ map lower labels

-- nothing was read
pub read_nothing : (text rest label : OctetList) (name : Labels) → rest ≡ text → label ≡ []
    → name ≡ [] → IsReadTo text rest label name
read_nothing text rest label name at_start none root = record {
  read = [];
  labels = [];
  whole = sym at_start;
  spelled = subst (SpellsLabels [] []) (sym none) nothing;
  lowered = root;
}

-- a dot ends a label
pub read_dot : (text rest label : OctetList) (name : Labels) (others next : OctetList) (new : Labels)
    → IsReadTo text rest label name → 0 < length rest → get_or rest 0 0 ≡ 46
    → others ≡ drop 1 rest → label ≢ [] → next ≡ [] → new ≡ name ++ lower label ∷ []
    → IsReadTo text others next new
read_dot text rest label name others next new before more dot is some none adds = record {
  read = before.read ++ 46 ∷ [];
  labels = before.labels ++ label ∷ [];
  whole =
      before.whole
      ∙ ap (λ x. before.read ++ x) (drop-cons rest 0 0 more ∙ ap₂ (λ x xs. x ∷ xs) dot (sym is))
      ∙ sym (append_assoc before.read (46 ∷ []) others);
  spelled =
      subst (SpellsLabels (before.read ++ 46 ∷ []) (before.labels ++ label ∷ [])) (sym none)
      (at_dot before.read before.labels label before.spelled some);
  lowered =
      adds ∙ ap (λ x. x ++ lower label ∷ []) before.lowered
      ∙ sym (map-append lower before.labels (label ∷ []));
}

-- an octet of a label
pub read_octet : (text rest label : OctetList) (name : Labels) (others : OctetList) (o : ℕ) (new : OctetList)
    → IsReadTo text rest label name → Begins rest o others → new ≡ label ++ o ∷ []
    → IsReadTo text others new name
read_octet text rest label name others o new before begins adds = record {
  read = before.read ++ begins.0;
  labels = before.labels;
  whole = before.whole ∙ ap (λ x. before.read ++ x) begins.1 ∙ sym (append_assoc before.read begins.0 others);
  spelled =
      subst (SpellsLabels (before.read ++ begins.0) before.labels) (sym adds)
      (longer before.read before.labels label begins.0 o before.spelled begins.2);
  lowered = before.lowered;
}

-- what was read to its end is the text
all_read : (text label : OctetList) (name : Labels) (before : IsReadTo text [] label name)
    → SpellsLabels text before.labels label
all_read text label name before =
    subst (λ x. SpellsLabels x before.labels label) (sym (before.whole ∙ append-nil before.read))
    before.spelled

-- a text that ends with a dot spells a name, if there is a label
pub spells_ended : (text rest label : OctetList) (name : Labels) → IsReadTo text rest label name
    → rest ≡ [] → label ≡ [] → 0 < length name → SpellsName text name
spells_ended text rest label name before end none some =
    let read = rw (end, none) at before in
    ended read.labels (all_read text [] name read)
    (λ no_label. absurd (omega (arith, ap length (read.lowered ∙ ap (map lower) no_label)))) read.lowered

-- a text that ends with a label spells a name
pub spells_open_ended : (text rest label : OctetList) (name new : Labels)
    → IsReadTo text rest label name → rest ≡ [] → label ≢ [] → new ≡ name ++ lower label ∷ []
    → SpellsName text new
spells_open_ended text rest label name new before end some adds =
    let read = rw end at before in
    open_ended read.labels label (all_read text label name read) some
    (adds ∙ ap (λ x. x ++ lower label ∷ []) read.lowered ∙ sym (map-append lower read.labels (label ∷ [])))
