-- What is made of a plain question, which is read in place.
-- Serves `Site::datagram_into`.
use Rattle.std.specs.Prelude.{◌≡◌, ◌<◌}
use Rattle.fleet_name.specs.Types.{OctetList}
use Rattle.fleet_wire.specs.Types.{Seconds}
use Rattle.fleet_wire.specs.Question.{QuestionData}
use Rattle.fleet_wire.specs.declared.class.TheConstants.{IN}
use Rattle.fleet_wire.specs.declared.header.Header.{Header}
use Rattle.fleet_observe.specs.Observation.{Observations}
use Rattle.fleet_site.specs.question.Decision.{Reply, Miss as MissData, IsAsking, IsPlainQuestion, Decides}
use Rattle.fleet_site.specs.declared.hit.Plain.{Plain}
use Rattle.fleet_site.specs.declared.hit.Plain.TheVariants.{Other, Hit, Miss}

-- what is decided of octets that may be a plain question: of a hit the buffer holds the reply; what is
-- left to the longer way is no plain question that data could answer
abbrev pub DecidesPlain : {A : Type 0} → Observations → Seconds → OctetList → OctetList → Plain A
    → Type 0
DecidesPlain s t octets out Other =
    (h : Header) (q : QuestionData) → ¬ IsPlainQuestion octets h q
DecidesPlain s t octets out Hit = Decides s t octets (Reply out)
DecidesPlain s t octets out (Miss h q) = Decides s t octets (MissData h q)

-- a miss of a plain question can be asked of an upstream
abbrev pub IsPlainMiss : {A : Type 0} → OctetList → Plain A → Type 0
IsPlainMiss octets Other = Unit {0}
IsPlainMiss octets Hit = Unit {0}
IsPlainMiss octets (Miss h q) = IsAsking octets × (h.opcode < 16) × (q.class ≡ IN)
