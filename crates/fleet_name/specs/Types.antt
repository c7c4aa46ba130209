-- The types of octets, of labels and of names: lists of numbers.
-- Serves every crate: the types of what definitions speak of.
use Rattle.std.specs.Prelude.{ℕ, List}

-- octets, each of 0 to 255, as they appear in a message, a frame or a line
abbrev pub OctetList : Type 0
OctetList = List ℕ

-- the octets of a label, its length octet left out
abbrev pub Label : Type 0
Label = List ℕ

-- a name: its labels from the left, the root's left out
abbrev pub Labels : Type 0
Labels = List Label
