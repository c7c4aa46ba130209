-- Names as zones write them (RFC 1035 5.1).
-- Serves `run_withdraw`.
use Rattle.std.specs.Prelude.{◌≡◌, ◌≢◌, ℕ, ◌+◌, ◌-◌, ◌*◌, ◌≤◌, [], ◌∷◌, ◌++◌, codes, map, IsTrue, IsFalse}
use Rattle.std.specs.Char.{is_ascii_digit}
use Rattle.fleet_name.specs.Types.{Labels, OctetList}
use Rattle.fleet_name.specs.Name.{lower}

-- a text spells one octet: itself, a visible character of ASCII but a dot and a backslash; or any but a
-- digit after a backslash; or by its number, three decimal digits after a backslash
pub data SpellsOctet (text : OctetList) (octet : ℕ) : Type 0 where
  plain : 33 ≤ octet → octet ≤ 126 → octet ≢ 46 → octet ≢ 92 → text ≡ octet ∷ []
      → SpellsOctet text octet
  escaped : IsFalse (is_ascii_digit octet) → text ≡ 92 ∷ octet ∷ [] → SpellsOctet text octet
  numbered : (a b c : ℕ) → IsTrue (is_ascii_digit a) → IsTrue (is_ascii_digit b)
      → IsTrue (is_ascii_digit c) → octet ≤ 255 → octet ≡ (a - 48) * 100 + (b - 48) * 10 + (c - 48)
      → text ≡ 92 ∷ a ∷ b ∷ c ∷ [] → SpellsOctet text octet

-- a text spells labels that a dot ends each, and the first octets of one more
pub data SpellsLabels : OctetList → Labels → OctetList → Type 0 where
  nothing : SpellsLabels [] [] []
  longer : (text : OctetList) → (labels : Labels) → (label : OctetList) → (more : OctetList)
      → (o : ℕ) → SpellsLabels text labels label → SpellsOctet more o
      → SpellsLabels (text ++ more) labels (label ++ o ∷ [])
  at_dot : (text : OctetList) → (labels : Labels) → (label : OctetList)
      → SpellsLabels text labels label → label ≢ []
      → SpellsLabels (text ++ 46 ∷ []) (labels ++ label ∷ []) []

-- a text spells a name: labels with dots between them, and one at the end or none; the root is a dot
-- alone. Letters are of either case (RFC 4343 3)
pub data SpellsName (text : OctetList) (name : Labels) : Type 0 where
  root : text ≡ codes "." → name ≡ [] → SpellsName text name
  ended : (labels : Labels) → SpellsLabels text labels [] → labels ≢ []
      → name ≡ map lower labels → SpellsName text name
  open_ended : (labels : Labels) → (label : OctetList) → SpellsLabels text labels label
      → label ≢ [] → name ≡ map lower (labels ++ label ∷ []) → SpellsName text name

-- What follows, private contracts alone cite.

-- a text begins with what spells an octet
abbrev pub Begins : OctetList → ℕ → OctetList → Type 0
Begins text o rest = (first : OctetList) × (text ≡ first ++ rest) × SpellsOctet first o
