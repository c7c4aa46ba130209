-- Which of the frames of a turn wait to be sent, where they do not all find room: those from one on,
-- and of those before it as many as leave room for them. The window of the next sweep begins with the
-- first frame that this one missed.
-- Serves `BurstPort`.
use Rattle.std.specs.Prelude.{◌≡◌, ℕ, ◌+◌, min, nat_le, ltb, Bool, true, false, ◌||◌, ◌&&◌, cond, Option, Some, None}
use Rattle.fleet_site.specs.server.PortRecord.{one_more}
use Rattle.fleet_site.specs.declared.outbox.TheConstants.{MOST_PLACES}
use Rattle.fleet_site.specs.declared.window.Window.{Window}
use Rattle.fleet_site.specs.declared.window.TheConstants.{FEW, MOST_RESERVED}

-- the window at first: no frame came in this turn, and it begins with the first one
abbrev pub whole_window : Window
whole_window = record {
  begins = 0;
  reserved = 0;
  count = 0;
  missed = None;
  short = 0;
  has_passed = false;
}

-- whether the next frame of the turn is of the window
abbrev pub is_inside : Window → Bool
is_inside w = nat_le w.begins w.count

-- whether the next frame of the turn is to wait, where so many places are taken: it is of the window,
-- or leaves as many places free as are reserved for the frames of the window
abbrev pub is_due : Window → ℕ → Bool
is_due w places = is_inside w || ltb (places + min w.reserved MOST_RESERVED) MOST_PLACES

-- the window after a frame that waits
abbrev pub after_kept : Window → Window
after_kept w = record w { count = one_more w.count }

-- the number of the first frame of the window that did not wait
abbrev pub missed_after : Option ℕ → Bool → ℕ → Option ℕ
missed_after (Some n) is_inside count = Some n
missed_after None is_inside count = cond is_inside (Some count) None

-- the window after a frame that does not wait
abbrev pub after_passed : Window → Window
after_passed w = record {
  begins = w.begins;
  reserved = w.reserved;
  count = one_more w.count;
  missed = missed_after w.missed (is_inside w) w.count;
  short = cond (is_inside w) (one_more w.short) w.short;
  has_passed = true;
}

-- where no frame came in the turn, the window is one with which a turn begins
abbrev pub IsNewIfNone : Window → Type 0
IsNewIfNone w = w.count ≡ 0 → w ≡ record w { missed = None; short = 0; has_passed = false }

-- where the next window begins: with the first frame that was missed, or where none was, with the first
-- frame of all
abbrev pub begins_after : Option ℕ → ℕ
begins_after (Some n) = n
begins_after None = 0

-- whether the window goes on after a turn: it was a sweep, of FEW frames or more, and not all of it
-- waited
abbrev pub goes_on : Window → Bool
goes_on w = nat_le FEW w.count && w.has_passed

-- the window of the next turn begins with the first frame that this one missed, and has as many places
-- reserved for its frames as it missed. Where the window does not go on, it begins and reserves as
-- before
abbrev pub next_turn : Window → Window
next_turn w = record {
  begins = cond (goes_on w) (begins_after w.missed) w.begins;
  reserved = cond (goes_on w) w.short w.reserved;
  count = 0;
  missed = None;
  short = 0;
  has_passed = false;
}
