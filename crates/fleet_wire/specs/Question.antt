-- What a question is, without where it lies in memory (RFC 1035 4.1.2).
-- Serves `read_query`, `read_plain_query`, `read_reply`, and every call of `Question` and
-- `LentQuestion`.
use Rattle.std.specs.Prelude.{◌≡◌, ℕ, ◌+◌, ◌<◌, ◌≤◌, ◌⊎◌, length}
use Rattle.fleet_name.specs.Types.{Labels, OctetList}
use Rattle.fleet_wire.specs.Types.{Place, RType}
use Rattle.fleet_name.specs.Name.{wire, lower, lower_all, labels_of, IsName}
use Rattle.fleet_wire.specs.Number.{u16_at}
use Rattle.fleet_wire.specs.NameAt.{NameAt, ReadsName}
use Rattle.fleet_wire.specs.Fault.{NameFails}
use Rattle.fleet_wire.specs.declared.fault.ReadFault.{ReadFault}
use Rattle.fleet_wire.specs.declared.fault.ReadFault.TheVariants.{Truncated}
use Rattle.fleet_wire.specs.declared.query.SpelledQuestion.{SpelledQuestion}

-- a question: its name in its own spelling, as octets, and as labels in lower case
pub record QuestionData : Type 0 where
  pub spelled : OctetList
  pub name : Labels
  pub rtype : RType
  pub class : ℕ

-- a question whose name is lent: as it is spelled, and in lower case
abbrev pub lent_data : OctetList → OctetList → RType → ℕ → QuestionData
lent_data spelled name rtype class =
    record { spelled = spelled; name = labels_of name; rtype = rtype; class = class }

-- octets of a name in full, in its own case and in lower case
pub record IsLent (spelled name : OctetList) : Type 0 where
  pub spells : lower spelled ≡ name
  pub whole : name ≡ wire (labels_of name)
  pub named : IsName (labels_of name)

-- the question q is at p, and ends before e
pub record IsQuestion (m : OctetList) (p : Place) (q : QuestionData) (e : Place) : Type 0 where
  pub labels : Labels
  pub past : Place
  pub name_at : NameAt m p p labels past
  pub spelled : q.spelled ≡ wire labels
  pub name : q.name ≡ lower_all labels
  pub named : IsName q.name
  pub fits : past + 4 ≤ length m
  pub rtype : q.rtype ≡ u16_at m past
  pub class : q.class ≡ u16_at m (past + 2)
  pub end_is : e ≡ past + 4

-- the first fault of a question at p: its name's, or that the message ends too early
abbrev pub QuestionFails : OctetList → Place → ReadFault → Type 0
QuestionFails m p f = NameFails m p f
    ⊎ ((n : Labels) × (past : Place) × ReadsName m p n past × (length m < past + 4)
    × (f ≡ Truncated))

-- what every question of a program meets: its spelling in lower case is its name in full
pub record IsQuestionData (q : QuestionData) : Type 0 where
  pub spelled : lower q.spelled ≡ wire q.name
  pub named : IsName q.name

-- What follows, private contracts alone cite.

-- a question as it was read, before its name is allocated
abbrev pub spelled_question_data : SpelledQuestion → QuestionData
spelled_question_data q = record {
  spelled = q.name.octets.items;
  name = lower_all (labels_of q.name.octets.items);
  rtype = q.rtype;
  class = q.class;
}
