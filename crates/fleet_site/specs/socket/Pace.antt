-- Datagrams are sent in bursts, with pauses between them.
-- Serves `BurstPort`.
use Rattle.std.specs.Prelude.{◌≡◌, ℕ, ◌+◌, ◌*◌, ◌<◌, nat_le, Bool, true, cond, List, [], ◌∷◌, Option, Some, None}
use Rattle.fleet_site.specs.socket.SocketRecord.{SocketCall, Came, NoneCame, Failed, Sent, Unsent, ClockRead, Paused, Switched}
use Rattle.fleet_site.specs.declared.bursts.TheConstants.{BURST, PAUSE}

-- a burst: the moment at which it began, in nanoseconds, where the clock was read since the last pause
-- that passed, and how many datagrams were sent in it
pub record Burst : Type 0 where
  pub began : Option ℕ
  pub sent : ℕ

-- a burst in which no datagram was sent yet
abbrev pub fresh : Burst
fresh = record { began = None; sent = 0 }

-- whether a burst that began then is over: PAUSE milliseconds lie between, in nanoseconds
abbrev pub is_over : Option ℕ → ℕ → Bool
is_over None now = true
is_over (Some began) now = nat_le (began + PAUSE * 1_000_000) now

-- the burst after a call of the socket: a pause that passes ends it, and so does a moment that lies a
-- pause after its beginning
abbrev pub after : Burst → SocketCall → Burst
after b (Came w asked from octets) = b
after b (NoneCame w asked) = b
after b (Failed w asked) = b
after b (Sent s) = record { began = b.began; sent = b.sent + 1 }
after b (Unsent s) = record { began = b.began; sent = b.sent + 1 }
after b (ClockRead None) = b
after b (ClockRead (Some now)) =
    cond (is_over b.began now) (record { began = Some now; sent = 0 }) b
after b Paused = fresh
after b (Switched w done) = b

-- a datagram that waited is sent only while the burst has room for it: fewer than BURST were sent in it
abbrev pub MaySend : Burst → SocketCall → Type 0
MaySend b (Came w asked from octets) = Unit {0}
MaySend b (NoneCame w asked) = Unit {0}
MaySend b (Failed w asked) = Unit {0}
MaySend b (Sent s) = b.sent < BURST
MaySend b (Unsent s) = b.sent < BURST
MaySend b (ClockRead now) = Unit {0}
MaySend b Paused = Unit {0}
MaySend b (Switched w done) = Unit {0}

-- these calls lead from one burst to another, and no burst has more than BURST datagrams
abbrev pub Paces : Burst → List SocketCall → Burst → Type 0
Paces b [] c = c ≡ b
Paces b (call ∷ calls) c = MaySend b call × Paces (after b call) calls c
