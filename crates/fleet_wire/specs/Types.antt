-- Types of numbers.
-- Serves every crate above: the types of what definitions speak of.
use Rattle.std.specs.Prelude.{ℕ}

-- a place in a message: how many octets come before it
abbrev pub Place : Type 0
Place = ℕ

-- the type of a record or of a question (RFC 1035 3.2.2, 3.2.3)
abbrev pub RType : Type 0
RType = ℕ

-- a span of time, or a moment as seconds since one that the caller chose
abbrev pub Seconds : Type 0
Seconds = ℕ
