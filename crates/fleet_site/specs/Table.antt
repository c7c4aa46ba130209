-- The open questions of a site.
-- Serves every call of `Site`.
use Rattle.std.specs.Prelude.{◌≡◌, ℕ, List, length}
use Rattle.fleet_wire.specs.declared.class.TheConstants.{IN}
use Rattle.fleet_pending.specs.Waiter.{WaiterData}
use Rattle.fleet_pending.specs.PendingData.{EntryData, PendingData, IsPendingData}
use Rattle.fleet_name.specs.Places.{At}
use Rattle.fleet_pending.specs.Waiting.{IsWaiting}
use Rattle.fleet_pending.specs.declared.addr.Addr.{Addr}

-- all who wait asked a question of class IN
abbrev pub AskClassOne : PendingData → Type 0
AskClassOne o = (w : WaiterData) → IsWaiting o w → w.question.class ≡ IN

-- open questions that go to these upstreams one after the other, and all who wait for them asked for
-- class IN
pub record IsTableOf (upstreams : List Addr) (o : PendingData) : Type 0 where
  pub pending : IsPendingData o
  pub counted : o.upstreams ≡ length upstreams
  pub class : AskClassOne o

-- What follows, private contracts alone cite.

-- all who wait for this entry asked a question of class IN
abbrev pub IsOfClassOne : EntryData → Type 0
IsOfClassOne e = (i : ℕ) (w : WaiterData) → At e.waiters i w → w.question.class ≡ IN

-- where the table was one of some upstreams, it still is
abbrev pub KeepsTable : PendingData → PendingData → Type 0
KeepsTable old new = (upstreams : List Addr) → IsTableOf upstreams old → IsTableOf upstreams new
