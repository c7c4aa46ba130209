-- What settling gives back.
-- Serves law `settling_gives_its_entry`.
use Rattle.std.specs.Prelude.{◌≡◌, ℕ, Option, Some}
use Rattle.std.specs.List.{remove}
use Rattle.fleet_pending.specs.Asking.{Settles}
use Rattle.fleet_pending.specs.PendingData.{EntryData, PendingData, IsPendingData, UsesId}
use Rattle.fleet_name.specs.Places.{At}

-- settling gives back the entry that has this id, and it alone is taken out
abbrev pub SettlesItsEntry : Type 0
SettlesItsEntry =
    (o n : PendingData) (i id : ℕ) (e : EntryData) (r : Option EntryData)
    → IsPendingData o → At o.entries i e → UsesId id e → Settles o id r n
    → (r ≡ Some e) × (n ≡ record o { entries = remove o.entries i })
