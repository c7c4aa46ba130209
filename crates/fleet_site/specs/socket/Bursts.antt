-- What a port over a socket takes in, hands on, keeps and sends.
-- Serves `BurstPort`.
use Rattle.std.specs.Prelude.{◌≡◌, ◌≢◌, ◌⊎◌, ℕ, ◌+◌, ◌<◌, ◌≤◌, Bool, true, false, cond, not, List, [], ◌∷◌, ◌++◌, length, Option, Result, Ok, Err}
use Rattle.fleet_name.specs.Types.{OctetList}
use Rattle.fleet_pending.specs.declared.addr.Addr.{Addr}
use Rattle.fleet_site.specs.PacketData.{PacketData}
use Rattle.fleet_site.specs.server.PortRecord.{one_more}
use Rattle.fleet_site.specs.declared.port.PortFault.{PortFault}
use Rattle.fleet_site.specs.socket.SocketRecord.{SocketCall, Came, NoneCame, Failed, Sent, Unsent, ClockRead, Paused, Switched, SocketState, Called, departure_of}
use Rattle.fleet_site.specs.socket.Waiting.{Datagram, is_long, is_frame, messages_of, frames_of, arrivals_of, departures_of, Arrived, OthersWait, Takes, TookOut, HandsOn, one_dropped}
use Rattle.fleet_site.specs.socket.Window.{is_due, after_kept, after_passed, next_turn}
use Rattle.fleet_site.specs.socket.Pace.{Burst, after, Paces}
use Rattle.fleet_site.specs.declared.bursts.TheConstants.{BURST}
use Rattle.fleet_site.specs.declared.window.Window.{Window}
use Rattle.fleet_site.specs.declared.queued.Drops.{Drops}
use Rattle.fleet_site.specs.declared.queued.Queued.{Queued}

-- what a port over a socket holds: the socket, the addresses of the peers, the messages and frames that
-- came and were not handed on, how many were dropped, what is still to be sent and how many places that
-- takes, which frames of the turn wait for that, the burst that goes on, how many frames went out
-- without waiting, and how many calls failed
pub record BurstData : Type 0 where
  pub socket : SocketState
  pub peers : List Addr
  pub messages : List Datagram
  pub frames : List Datagram
  pub dropped : Drops
  pub leaving : List Datagram
  pub places : ℕ
  pub window : Window
  pub burst : Burst
  pub unpaced : ℕ
  pub failed : ℕ

-- whether something that came waits to be handed on, messages or frames
abbrev pub has_waiting : List Datagram → List Datagram → Bool
has_waiting [] [] = false
has_waiting [] (d ∷ frames) = true
has_waiting (d ∷ messages) frames = true

-- how a port works while something waits in it: no receive waits, and each asks for so many octets. A
-- pause passes only while nothing that came waits, and only where the port listened since the last
-- pause, or the system refused to have receives return at once
abbrev pub Works : (asked : ℕ) → (waits listened : Bool) → List SocketCall → Type 0
Works asked waits listened [] = Unit {0}
Works asked waits listened (Came w n from octets ∷ calls) =
    (w ≡ false) × (n ≡ asked) × Works asked true true calls
Works asked waits listened (NoneCame w n ∷ calls) =
    (w ≡ false) × (n ≡ asked) × Works asked waits true calls
Works asked waits listened (Failed w n ∷ calls) =
    (w ≡ false) × (n ≡ asked) × Works asked waits true calls
Works asked waits listened (Sent s ∷ calls) = Works asked waits listened calls
Works asked waits listened (Unsent s ∷ calls) = Works asked waits listened calls
Works asked waits listened (ClockRead t ∷ calls) = Works asked waits listened calls
Works asked waits listened (Paused ∷ calls) =
    (waits ≡ false) × (listened ≡ true) × Works asked waits false calls
Works asked waits listened (Switched false false ∷ calls) = Works asked waits true calls
Works asked waits listened (Switched false true ∷ calls) = Works asked waits listened calls
Works asked waits listened (Switched true done ∷ calls) = Works asked waits listened calls

-- a receive was made, or the system refused to have receives return at once
abbrev pub Listens : List SocketCall → Type 0
Listens [] = ⊥
Listens (Came w n from octets ∷ calls) = Unit {0}
Listens (NoneCame w n ∷ calls) = Unit {0}
Listens (Failed w n ∷ calls) = Unit {0}
Listens (Sent s ∷ calls) = Listens calls
Listens (Unsent s ∷ calls) = Listens calls
Listens (ClockRead t ∷ calls) = Listens calls
Listens (Paused ∷ calls) = Listens calls
Listens (Switched false false ∷ calls) = Unit {0}
Listens (Switched false true ∷ calls) = Listens calls
Listens (Switched true done ∷ calls) = Listens calls

-- nothing but receives that ask for so many octets and return at once, and switches to such
abbrev pub OnlyTakeIn : (asked : ℕ) → List SocketCall → Type 0
OnlyTakeIn asked [] = Unit {0}
OnlyTakeIn asked (Came w n from octets ∷ calls) = (w ≡ false) × (n ≡ asked) × OnlyTakeIn asked calls
OnlyTakeIn asked (NoneCame w n ∷ calls) = (w ≡ false) × (n ≡ asked) × OnlyTakeIn asked calls
OnlyTakeIn asked (Failed w n ∷ calls) = (w ≡ false) × (n ≡ asked) × OnlyTakeIn asked calls
OnlyTakeIn asked (Sent s ∷ calls) = ⊥
OnlyTakeIn asked (Unsent s ∷ calls) = ⊥
OnlyTakeIn asked (ClockRead t ∷ calls) = ⊥
OnlyTakeIn asked (Paused ∷ calls) = ⊥
OnlyTakeIn asked (Switched false done ∷ calls) = OnlyTakeIn asked calls
OnlyTakeIn asked (Switched true done ∷ calls) = ⊥

-- a receive, which waits for a datagram or does not, and then others, which do not
abbrev pub ReceivesFirst : (asked : ℕ) → (waits : Bool) → List SocketCall → Type 0
ReceivesFirst asked waits [] = ⊥
ReceivesFirst asked waits (Came w n from octets ∷ calls) =
    (w ≡ waits) × (n ≡ asked) × OnlyTakeIn asked calls
ReceivesFirst asked waits (NoneCame w n ∷ calls) =
    (w ≡ waits) × (n ≡ asked) × OnlyTakeIn asked calls
ReceivesFirst asked waits (Failed w n ∷ calls) = (w ≡ waits) × (n ≡ asked) × OnlyTakeIn asked calls
ReceivesFirst asked waits (Sent s ∷ calls) = ⊥
ReceivesFirst asked waits (Unsent s ∷ calls) = ⊥
ReceivesFirst asked waits (ClockRead t ∷ calls) = ⊥
ReceivesFirst asked waits (Paused ∷ calls) = ⊥
ReceivesFirst asked waits (Switched w done ∷ calls) = ⊥

-- the first receive waits for a datagram, unless the system refuses that, and nothing but receives
-- comes after it
abbrev pub WaitsOnce : (asked : ℕ) → List SocketCall → Type 0
WaitsOnce asked (Switched w done ∷ calls) = (w ≡ true) × ReceivesFirst asked done calls
WaitsOnce asked calls = ReceivesFirst asked true calls

-- how many calls of a socket failed after these, from n on: each receive and each send that failed is
-- counted
abbrev pub failed_after : List SocketCall → ℕ → ℕ
failed_after [] n = n
failed_after (Came w asked from octets ∷ calls) n = failed_after calls n
failed_after (NoneCame w asked ∷ calls) n = failed_after calls n
failed_after (Failed w asked ∷ calls) n = failed_after calls (one_more n)
failed_after (Sent s ∷ calls) n = failed_after calls n
failed_after (Unsent s ∷ calls) n = failed_after calls (one_more n)
failed_after (ClockRead t ∷ calls) n = failed_after calls n
failed_after (Paused ∷ calls) n = failed_after calls n
failed_after (Switched w done ∷ calls) n = failed_after calls n

-- nothing waits in the port, either way: nothing that came, and nothing to be sent
pub record IsIdle (p : BurstData) : Type 0 where
  pub messages : p.messages ≡ []
  pub frames : p.frames ≡ []
  pub leaving : p.leaving ≡ []

-- what came in and waits in a port, and how many others were dropped
abbrev pub arrived_of : BurstData → Arrived
arrived_of p = record { messages = p.messages; frames = p.frames; dropped = p.dropped }

-- these calls of the socket were made: what came waits after what waited, messages and frames apart, or
-- was dropped where others of its kind waited, and counted. What was sent are the first ones that
-- waited to be sent; each call that failed is counted
pub record Worked (old new : BurstData) (calls : List SocketCall) : Type 0 where
  pub called : Called old.socket new.socket calls
  pub peers : new.peers ≡ old.peers
  pub takes : Takes old.peers (arrivals_of calls) (arrived_of old) (arrived_of new)
  pub leaving : old.leaving ≡ departures_of calls ++ new.leaving
  pub places : new.places ≤ old.places
  pub window : new.window ≡ old.window
  pub unpaced : new.unpaced ≡ old.unpaced
  pub paces : Paces old.burst calls new.burst
  pub failed : new.failed ≡ failed_after calls old.failed

-- the next datagram that waits was handed on, cut to the buffer; a receive that failed handed nothing
-- on
abbrev pub HandsNextOn : ℕ → BurstData → Result (Option (Addr × ℕ)) PortFault
    → OctetList → BurstData → Type 0
HandsNextOn asked old (Ok got) buffer new =
    (taken : Option Datagram) × TookOut old.messages old.frames taken new.messages new.frames
    × HandsOn asked taken got buffer
    × (new ≡ record old { messages = new.messages; frames = new.frames })
HandsNextOn asked old (Err e) buffer new = new ≡ old

-- by the clock the burst that goes on has no room yet, or the clock can't be read
abbrev pub IsPause : Burst → List SocketCall → Type 0
IsPause b (ClockRead t ∷ calls) = BURST ≤ (after b (ClockRead t)).sent
IsPause b calls = ⊥

-- where something waits to be sent, some of it is sent, unless the burst has no room yet
abbrev pub SendsOn : BurstData → List SocketCall → BurstData → Type 0
SendsOn old calls new =
    (old.leaving ≢ []) → (length new.leaving < length old.leaving) ⊎ IsPause old.burst calls

-- where nothing that came waited, a receive of the port that did not fail listened
abbrev pub ListensFor : Result (Option (Addr × ℕ)) PortFault → BurstData → List SocketCall → Type 0
ListensFor (Ok got) old calls = has_waiting old.messages old.frames ≡ false → Listens calls
ListensFor (Err e) old calls = Unit {0}

-- one receive of a port: it worked, and handed one datagram on. Where nothing waited in it, it waited
-- for one, and else it did not wait; where nothing that came waited, it listened
pub record Receives (asked : ℕ) (old : BurstData) (r : Result (Option (Addr × ℕ)) PortFault)
    (buffer : OctetList) (new : BurstData) : Type 0 where
  pub calls : List SocketCall
  pub mid : BurstData
  pub worked : Worked old mid calls
  pub hands_on : HandsNextOn asked mid r buffer new
  pub idle : IsIdle old → WaitsOnce asked calls
  pub busy : (IsIdle old → ⊥) → Works asked (has_waiting old.messages old.frames) false calls
  pub sends : SendsOn old calls mid
  pub listens : ListensFor r old calls

-- the port as a turn begins, with the window of that turn
abbrev pub turn_begun : BurstData → BurstData
turn_begun p = record p { window = next_turn p.window }

-- a frame waits after those that wait to be sent: in the last place, or in one of its own where it is
-- due
abbrev pub Waits : PacketData → BurstData → Result (Unit {0}) PortFault → BurstData → Type 0
Waits s old (Ok u) new =
    ((new.places ≡ old.places)
    ⊎ ((new.places ≡ old.places + 1) × (is_due old.window old.places ≡ true)))
    × (new ≡ record old {
      leaving = old.leaving ++ (s.to, s.octets) ∷ [];
      places = new.places;
      window = after_kept old.window;
    })
Waits s old (Err e) new = ⊥

-- a frame does not wait: it is given to the socket at once, and counted
abbrev pub Passes : PacketData → BurstData → Result (Unit {0}) PortFault → BurstData → Type 0
Passes s old r new =
    Called old.socket new.socket (departure_of r s ∷ [])
    × (new ≡ record old {
      socket = new.socket;
      window = after_passed old.window;
      unpaced = one_more old.unpaced;
      failed = new.failed;
    })

-- one send of a port: a message is given to the socket in this very call. What is longer waits after
-- what waits to be sent, or is given to the socket in this very call too, and counted
pub record SendsOrKeeps (s : PacketData) (old : BurstData) (r : Result (Unit {0}) PortFault)
    (new : BurstData) : Type 0 where
  pub message : is_long s.octets ≡ false
      → Called old.socket new.socket (departure_of r s ∷ [])
      × (new ≡ record old { socket = new.socket; failed = new.failed })
  pub longer : is_long s.octets ≡ true → Waits s old r new ⊎ Passes s old r new

-- what waits in the queues of a port, and what found no room in them
abbrev pub queued_in : BurstData → Queued
queued_in p = record {
  messages = length p.messages;
  frames = length p.frames;
  leaving = p.places;
  dropped = p.dropped;
  unpaced = p.unpaced;
}

-- What follows, private contracts alone cite.

-- the socket was asked nothing, or only to have receives wait from then on, or not to
abbrev pub IsSwitch : Bool → List SocketCall → Bool → Type 0
IsSwitch waits [] done = done ≡ true
IsSwitch waits (call ∷ []) done = call ≡ Switched waits done
IsSwitch waits (call ∷ next ∷ calls) done = ⊥

-- receives wait from then on, or do not, unless the system refuses
abbrev pub Switches : Bool → BurstData → Bool → BurstData → Type 0
Switches waits old done new =
    (calls : List SocketCall) × IsSwitch waits calls done × Called old.socket new.socket calls
    × (new ≡ record old { socket = new.socket }) × (new.socket.waits ≡ cond done waits (not waits))

-- the port with one more datagram that came and waits
abbrev pub joined : Datagram → BurstData → BurstData
joined d p = record p {
  messages = p.messages ++ messages_of p.peers (d ∷ []);
  frames = p.frames ++ frames_of p.peers (d ∷ []);
}

-- a datagram that came waits in the port, or is dropped where others of its kind wait, and counted by
-- its kind
abbrev pub KeepsOrDrops : Datagram → BurstData → BurstData → Type 0
KeepsOrDrops d old new =
    (new ≡ joined d old)
    ⊎ (OthersWait (is_frame old.peers d) old.messages old.frames
    × (new ≡ record old { dropped = one_dropped (is_frame old.peers d) old.dropped }))

-- some calls of the socket were made, and the port worked by them
pub record HasWorked (old new : BurstData) : Type 0 where
  pub calls : List SocketCall
  pub worked : Worked old new calls

-- the port worked while something waited in it, and sent of what waits, unless the burst has no room
-- yet
pub record WorkedOn (asked : ℕ) (old new : BurstData) : Type 0 where
  pub calls : List SocketCall
  pub worked : Worked old new calls
  pub works : Works asked (has_waiting old.messages old.frames) false calls
  pub sends : SendsOn old calls new

-- the port worked while something waited in it, and handed the next datagram on
pub record WorksThenHandsOn (asked : ℕ) (old : BurstData) (r : Result (Option (Addr × ℕ)) PortFault)
    (buffer : OctetList) (new : BurstData) : Type 0 where
  pub mid : BurstData
  pub worked_on : WorkedOn asked old mid
  pub listens : ListensFor r old worked_on.calls
  pub hands_on : HandsNextOn asked mid r buffer new

-- the port took in what there was, by receives that return at once
pub record TookIn (asked : ℕ) (old new : BurstData) : Type 0 where
  pub calls : List SocketCall
  pub worked : Worked old new calls
  pub only : OnlyTakeIn asked calls

-- the port listened; or there was no room for what might come, and nothing came
abbrev pub ListenedOrFull : Result Bool PortFault → BurstData → List SocketCall → BurstData → Type 0
ListenedOrFull (Ok true) old calls new = Listens calls
ListenedOrFull (Ok false) old calls new =
    (new.messages ≡ old.messages) × (new.frames ≡ old.frames) × (new.socket.waits ≡ false)
ListenedOrFull (Err e) old calls new = Unit {0}

-- the port took in what there was, as far as there was room
pub record TookAll (asked : ℕ) (old : BurstData) (r : Result Bool PortFault) (new : BurstData)
    : Type 0 where
  pub took : TookIn asked old new
  pub listened : ListenedOrFull r old took.calls new

-- the port took in what there was, and handed the next datagram on
pub record TakesThenHandsOn (asked : ℕ) (old : BurstData) (r : Result (Option (Addr × ℕ)) PortFault)
    (buffer : OctetList) (new : BurstData) : Type 0 where
  pub mid : BurstData
  pub took : TookIn asked old mid
  pub listens : ListensFor r old took.calls
  pub hands_on : HandsNextOn asked mid r buffer new

-- nothing but sends, and looks at the clock
abbrev pub OnlySends : List SocketCall → Type 0
OnlySends [] = Unit {0}
OnlySends (Came w n from octets ∷ calls) = ⊥
OnlySends (NoneCame w n ∷ calls) = ⊥
OnlySends (Failed w n ∷ calls) = ⊥
OnlySends (Sent s ∷ calls) = OnlySends calls
OnlySends (Unsent s ∷ calls) = OnlySends calls
OnlySends (ClockRead t ∷ calls) = OnlySends calls
OnlySends (Paused ∷ calls) = ⊥
OnlySends (Switched w done ∷ calls) = ⊥

-- the port sent some of what waits to be sent, or none of it
pub record SentSome (old new : BurstData) : Type 0 where
  pub calls : List SocketCall
  pub worked : Worked old new calls
  pub only : OnlySends calls

-- the port sent some of what waits to be sent, unless the burst has no room yet
pub record SentOn (old new : BurstData) : Type 0 where
  pub sent : SentSome old new
  pub sends : SendsOn old sent.calls new

-- the clock was read, which may end the burst
pub record ReadsClock (old new : BurstData) : Type 0 where
  pub time : Option ℕ
  pub called : Called old.socket new.socket (ClockRead time ∷ [])
  pub burst : new.burst ≡ after old.burst (ClockRead time)
  pub rest : new ≡ record old { socket = new.socket; burst = new.burst }
