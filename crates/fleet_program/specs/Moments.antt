-- Moments of a clock of the system.
-- Serves `SystemClock`.
use Rattle.std.specs.Prelude.{ℕ, ◌/◌, min, Result, Ok, Err}
use Rattle.std.specs.declared.time.Duration.{Duration}
use Rattle.std.specs.Duration.{as_nanos}
use Rattle.fleet_observe.specs.declared.bounds.TheConstants.{LATEST}

-- the moment that is this long after 1970: whole seconds, of 10^9 nanoseconds each, at most LATEST
-- (2^40)
abbrev pub moment_in : Duration → ℕ
moment_in since = min (as_nanos since / 1000000000) LATEST

-- the moment of a reading of the clock; the last one again where the clock can't be read
abbrev pub moment_after : {E : Type 0} → Result Duration E → ℕ → ℕ
moment_after (Ok since) last = moment_in since
moment_after (Err error) last = last
