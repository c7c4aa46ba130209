-- Frames that wait to be sent.
-- Serves the outbox of `BurstPort`.
use Rattle.std.specs.Prelude.{◌≡◌, ◌⊎◌, ℕ, ◌+◌, true, false, List, [], ◌∷◌, ◌++◌, map, Bool, Result, Ok, Err}
use Rattle.std.specs.List.{flat_map}
use Rattle.std.specs.declared.alloc.AllocError.{AllocError}
use Rattle.fleet_site.specs.socket.Waiting.{Datagram}
use Rattle.fleet_site.specs.socket.Window.{is_due, after_kept, after_passed}
use Rattle.fleet_site.specs.declared.outbox.Outgoing.{Outgoing}
use Rattle.fleet_site.specs.declared.outbox.TheConstants.{MOST_PLACES}
use Rattle.fleet_site.specs.declared.window.Window.{Window}

-- the datagrams as which a frame that waits still goes out, one to each address
abbrev pub datagrams_of : {A : Type 0} → Outgoing A → List Datagram
datagrams_of f = (f.next, f.octets) ∷ map (λ a. (a, f.octets)) f.others.items

-- the datagrams as which all frames that wait still go out, in their order
abbrev pub all_datagrams : {A : Type 0} → List (Outgoing A) → List Datagram
all_datagrams fs = flat_map datagrams_of fs

-- what an outbox holds: the datagrams that wait, how many places they take, of which a frame has one
-- for all that it goes to, and which frames of this turn wait
pub record OutboxData : Type 0 where
  pub waiting : List Datagram
  pub places : ℕ
  pub window : Window

-- a frame waits after those that wait, in the last place, or where it is due in one of its own. One
-- that is not due, or finds no room or no memory, does not wait
abbrev pub KeepsOrPasses : OutboxData → Datagram → Result Bool AllocError → OutboxData → Type 0
KeepsOrPasses old d (Ok true) new =
    ((new.places ≡ old.places)
    ⊎ ((new.places ≡ old.places + 1) × (is_due old.window old.places ≡ true)))
    × (new ≡ record {
      waiting = old.waiting ++ d ∷ [];
      places = new.places;
      window = after_kept old.window;
    })
KeepsOrPasses old d (Ok false) new =
    ((is_due old.window old.places ≡ false) ⊎ (old.places ≡ MOST_PLACES))
    × (new ≡ record old { window = after_passed old.window })
KeepsOrPasses old d (Err e) new = new ≡ record old { window = after_passed old.window }

-- a frame waits or does not, as in `KeepsOrPasses`, and the window is as it was
abbrev pub Puts : OutboxData → Datagram → Result Bool AllocError → OutboxData → Type 0
Puts old d (Ok true) new =
    ((new.places ≡ old.places)
    ⊎ ((new.places ≡ old.places + 1) × (is_due old.window old.places ≡ true)))
    × (new ≡ record { waiting = old.waiting ++ d ∷ []; places = new.places; window = old.window })
Puts old d (Ok false) new =
    ((is_due old.window old.places ≡ false) ⊎ (old.places ≡ MOST_PLACES)) × (new ≡ old)
Puts old d (Err e) new = new ≡ old
