-- What came in and was not handed on yet.
-- Serves the inbox of `BurstPort`.
use Rattle.std.specs.Prelude.{◌≡◌, ℕ, ◌≤◌, Bool, true, false, List, ◌++◌, length, Option}
use Rattle.fleet_name.specs.Types.{OctetList}
use Rattle.fleet_pending.specs.declared.addr.Addr.{Addr}
use Rattle.fleet_site.specs.socket.Waiting.{Datagram, at_most_one, Joins, OthersWait, TookOut, HandsOn}
use Rattle.fleet_site.specs.declared.inbox.Inbox.{Inbox}

-- the messages that came in and wait, in the order in which they came
abbrev pub waiting_messages : {A : Type 0} → Inbox A → List Datagram
waiting_messages inbox = inbox.messages ++ at_most_one inbox.late_message

-- the frames that came in and wait, in the order in which they came
abbrev pub waiting_frames : {A : Type 0} → Inbox A → List Datagram
waiting_frames inbox = inbox.frames ++ at_most_one inbox.late_frame

-- there is room for a datagram of that many octets, though an allocation fails
abbrev pub HasRoom : {A : Type 0} → Inbox A → ℕ → Type 0
HasRoom inbox octets = octets ≤ length inbox.spare.items

-- a datagram was kept, after those of its kind; or others of its kind wait, and nothing changed
abbrev pub Keeps : {A : Type 0} → Inbox A → Datagram → Bool → Bool → Inbox A → Type 0
Keeps old d is_frame true new =
    Joins is_frame (waiting_messages old) (waiting_frames old) d
    (waiting_messages new) (waiting_frames new)
Keeps old d is_frame false new =
    OthersWait is_frame (waiting_messages old) (waiting_frames old)
    × (waiting_messages new ≡ waiting_messages old) × (waiting_frames new ≡ waiting_frames old)

-- of what came in and waits the next one was taken out
abbrev pub TakesNext : {A : Type 0} → Inbox A → Option Datagram → Inbox A → Type 0
TakesNext old taken new =
    TookOut (waiting_messages old) (waiting_frames old) taken
    (waiting_messages new) (waiting_frames new)

-- of what came in and waits the next one was handed on, cut to the buffer
abbrev pub HandsOnNext : {A : Type 0} → ℕ → Inbox A → Option (Addr × ℕ) → OctetList
    → Inbox A → Type 0
HandsOnNext asked old got buffer new =
    (taken : Option Datagram) × TakesNext old taken new × HandsOn asked taken got buffer
