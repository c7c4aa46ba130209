-- The text of a name, with the escapes of master files (RFC 1035 5.1).
-- Serves `Name::write_text`.
use Rattle.std.specs.Prelude.{ℕ, ◌+◌, ◌/◌, ◌%◌, [], ◌∷◌, ◌++◌, if◌then◌else◌, nat_eq, nat_le, ◌||◌, ◌&&◌}
use Rattle.std.specs.List.{flat_map}
use Rattle.fleet_name.specs.Types.{Label, Labels, OctetList}

-- an octet as a backslash and three decimal digits
abbrev pub digits : ℕ → OctetList
digits c = 92 ∷ (48 + c / 100) ∷ (48 + c / 10 % 10) ∷ (48 + c % 10) ∷ []

-- an octet of a label: a dot and a backslash have a backslash before them, an octet outside 33 to
-- 126 has three digits
abbrev pub octet_text : ℕ → OctetList
octet_text c =
    if nat_eq c 46 || nat_eq c 92 then 92 ∷ c ∷ [] else
    if nat_le 33 c && nat_le c 126 then c ∷ [] else digits c

-- a label, and the dot after it
abbrev pub label_text : Label → OctetList
label_text label = flat_map octet_text label ++ 46 ∷ []

-- a name as text: each label followed by a dot; the root is a dot alone
abbrev pub text_of : Labels → OctetList
text_of [] = 46 ∷ []
text_of (label ∷ name) = label_text label ++ flat_map label_text name
