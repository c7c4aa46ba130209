-- What the first due entry makes a site write, before its table changes.
-- Serves `Site::tick`.
use Rattle.std.specs.Prelude.{◌≡◌, ℕ, ◌+◌, ◌<◌, ◌≤◌, List, IsTrue, ◌↔◌, map}
use Rattle.fleet_wire.specs.Types.{Seconds}
use Rattle.fleet_wire.specs.Query.{query_octets}
use Rattle.fleet_pending.specs.Due.{IsFirstDue, NoneDue}
use Rattle.fleet_pending.specs.PendingData.{EntryData, PendingData}
use Rattle.fleet_name.specs.Places.{At}
use Rattle.fleet_pending.specs.declared.addr.Addr.{Addr}
use Rattle.fleet_site.specs.OutcomeData.{OutcomeData, nothing, sends}
use Rattle.fleet_site.specs.Tick.{question_of, failure_to}
use Rattle.fleet_site.specs.declared.tick.Plan.{Plan}
use Rattle.fleet_site.specs.declared.tick.Plan.TheVariants.{Retry, Fail}

-- the entry is the first due one, and its query goes to the next upstream
pub record IsRetry (upstreams : List Addr) (o : PendingData) (t : Seconds) (id : ℕ)
    (e : OutcomeData) : Type 0 where
  pub entry : EntryData
  pub due : IsFirstDue o.entries t entry
  pub id_is : id ≡ entry.id
  pub there : Addr
  pub next : At upstreams (entry.upstream + 1) there
  pub further : entry.upstream + 1 < o.upstreams
  pub says : e ≡ sends there (query_octets id (question_of entry))

-- the entry is the first due one, and its waiters get a server failure
pub record IsFailure (o : PendingData) (t : Seconds) (id : ℕ) (e : OutcomeData) : Type 0 where
  pub entry : EntryData
  pub due : IsFirstDue o.entries t entry
  pub id_is : id ≡ entry.id
  pub last : o.upstreams ≤ entry.upstream + 1
  pub says : e ≡ record nothing { packets = map failure_to entry.waiters }

-- what is to be done for the first due entry: the query to the next upstream, or the failure
abbrev pub IsPlan : {A : Type 0} → List Addr → PendingData → Seconds → Plan A → Type 0
IsPlan upstreams o t (Retry id out) = IsRetry upstreams o t id out
IsPlan upstreams o t (Fail id out) = IsFailure o t id out

-- the same is said, and besides whether an entry is due
pub record SaysMore (o : PendingData) (t : Seconds) (old new : OutcomeData) : Type 0 where
  pub says : new ≡ record old { more = new.more }
  pub more : IsTrue new.more ↔ (¬ NoneDue o.entries t)
