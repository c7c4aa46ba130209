-- Who waits, and for the answer to which question.
-- Serves every call of `Pending`.
use Rattle.std.specs.Prelude.{◌≡◌, ℕ, List}
use Rattle.fleet_wire.specs.Question.{QuestionData}
use Rattle.fleet_pending.specs.declared.addr.Addr.{Addr}
use Rattle.fleet_name.specs.Places.{At}

-- who waits: its address, the id of its message, and its question
pub record WaiterData : Type 0 where
  pub from : Addr
  pub id : ℕ
  pub question : QuestionData

-- two who wait have one address and one id
abbrev pub SameAsker : WaiterData → WaiterData → Type 0
SameAsker v w = (v.from ≡ w.from) × (v.id ≡ w.id)

-- the same asker as w is among these
abbrev pub Waits : WaiterData → List WaiterData → Type 0
Waits w vs = (i : ℕ) × ((v : WaiterData) × At vs i v × SameAsker v w)
