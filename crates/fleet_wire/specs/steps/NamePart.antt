-- What a name has where a label may begin (RFC 1035 3.1, 4.1.4).
-- Serves the readers of names in `read_query`, `read_plain_query`, `read_reply` and `plain_rdata`.
use Rattle.std.specs.Prelude.{ℕ, ◌+◌, ◌<◌, ◌≤◌, length}
use Rattle.fleet_name.specs.Types.{OctetList}
use Rattle.fleet_wire.specs.Types.{Place}
use Rattle.fleet_name.specs.declared.bounds.TheConstants.{LONGEST_NAME}
use Rattle.fleet_wire.specs.NameAt.{LabelAt, EndAt, PointerAt}
use Rattle.fleet_wire.specs.declared.name_reader.NamePart.{NamePart}
use Rattle.fleet_wire.specs.declared.name_reader.NamePart.TheVariants.{End, Label, Pointer}

-- what is at p, in a run begun at s; k is the length in full of the labels read so far, with the final
-- zero octet: a zero octet, a label with which the name is not too long, or a pointer to a place before
-- the run
abbrev pub IsNamePart : OctetList → Place → Place → ℕ → NamePart → Type 0
IsNamePart m p s k End = EndAt m p
IsNamePart m p s k (Label l) = LabelAt m p l.now × (k + length l.now + 1 ≤ LONGEST_NAME)
IsNamePart m p s k (Pointer q) = PointerAt m p q × (q < s)
