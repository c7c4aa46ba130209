-- What a port over a socket did, one call of the socket after the other.
-- Serves `Bursts::finish`, `Bursts::read_clock`, `Bursts::receive_burst`, `Bursts::recv`,
-- `Bursts::send_burst`, `Bursts::send_more`, `Bursts::take_in`, `Bursts::wait`, `Bursts::work`, and
-- what `Busy`, `Carried`, `Flowing`, `SocketLedger` serve.
use Rattle.std.proofs.Common.{◌≡◌, inl, inr, ℕ, ◌+◌, ◌≤◌, ◌<◌, Bool, true, false, cond, not, min, List, [], ◌∷◌, ◌++◌, length, take, Option, Some, None, Result, Ok, Err, refl, sym, ap, subst, ◌∙◌, append_assoc, arith, length-append, lit<}
use Rattle.std.proofs.Math.Nat.{min-eq_left}
use Rattle.std.proofs.lemmas.List.{append-nil, length-take-le, take_all}
use Rattle.fleet_pending.specs.declared.addr.Addr.{Addr}
use Rattle.fleet_site.specs.PacketData.{PacketData}
use Rattle.fleet_site.specs.declared.port.PortFault.{PortFault}
use Rattle.fleet_site.specs.server.PortRecord.{failures_after, Fills}
use Rattle.fleet_site.specs.socket.SocketRecord.{SocketCall, Came, NoneCame, Failed, Sent, Unsent, ClockRead, Switched, SocketState, Called, mode_after, arrival_of, departure_of}
use Rattle.fleet_site.specs.socket.Waiting.{Datagram, Arrived, with_one, without_one, one_dropped, OthersWait, Takes, Joins, TookOut, HandsOn, is_frame, messages_of, arrivals_of, departures_of}
use Rattle.fleet_site.specs.socket.Pace.{Burst, is_over, after, Paces}
use Rattle.fleet_site.specs.declared.bursts.TheConstants.{BURST}
use Rattle.fleet_site.specs.socket.Window.{next_turn}
use Rattle.fleet_site.specs.socket.Outbox.{OutboxData}
use Rattle.fleet_site.specs.socket.Bursts.{BurstData, arrived_of, KeepsOrDrops, turn_begun, has_waiting, ListensFor, OnlyTakeIn, ReceivesFirst, WaitsOnce, failed_after, Worked, HasWorked, Switches, IsSwitch, IsIdle, HandsNextOn, WorksThenHandsOn, TookIn, TakesThenHandsOn, SentSome, Receives, joined}
use Rattle.fleet_site.proofs.SocketCalls.{called_none, called_both, arrivals_of-append, departures_of-append, failed_after-append, paces_both, only_both, sends_both, once_listens}

le_both : (x y z : ℕ) → x ≤ y → y ≤ z → x ≤ z
le_both x y z h k = omega arith

pub same_le : (x y : ℕ) → x ≡ y → x ≤ y
same_le x y e = omega (arith, e)

pub worked_none : (p : BurstData) → Worked p p []
worked_none p = record {
  called = called_none p.socket;
  peers = refl;
  takes = refl;
  leaving = refl;
  places = omega arith;
  window = refl;
  unpaced = refl;
  paces = refl;
  failed = refl;
}

takes_both : (ps : List Addr) (xs ys : List Datagram) (a b c : Arrived) → Takes ps xs a b → Takes ps ys b c
    → Takes ps (xs ++ ys) a c
takes_both ps [] ys a b c h k = subst (λ x. Takes ps ys x c) h k
takes_both ps (x ∷ xs) ys a b c (inl h) k = inl (takes_both ps xs ys (with_one ps x a) b c h k)
takes_both ps (x ∷ xs) ys a b c (inr h) k = inr (h.0, takes_both ps xs ys (without_one ps x a) b c h.1 k)

pub worked_both : (a b c : BurstData) (xs ys : List SocketCall) → Worked a b xs → Worked b c ys → Worked a c (xs ++ ys)
worked_both a b c xs ys h k = record {
  called = called_both a.socket b.socket c.socket xs ys h.called k.called;
  peers = k.peers ∙ h.peers;
  takes = subst (λ ds. Takes a.peers ds (arrived_of a) (arrived_of c)) (sym (arrivals_of-append xs ys))
      (takes_both a.peers (arrivals_of xs) (arrivals_of ys) (arrived_of a) (arrived_of b) (arrived_of c) h.takes
      (subst (λ ps. Takes ps (arrivals_of ys) (arrived_of b) (arrived_of c)) h.peers k.takes));
  leaving = h.leaving ∙ ap (λ ds. departures_of xs ++ ds) k.leaving
      ∙ sym (append_assoc (departures_of xs) (departures_of ys) c.leaving)
      ∙ ap (λ ds. ds ++ c.leaving) (sym (departures_of-append xs ys));
  places = le_both c.places b.places a.places k.places h.places;
  window = k.window ∙ h.window;
  unpaced = k.unpaced ∙ h.unpaced;
  paces = paces_both a.burst b.burst c.burst xs ys h.paces k.paces;
  failed = k.failed ∙ ap (failed_after ys) h.failed ∙ sym (failed_after-append xs ys a.failed);
}

pub worked_before : (a b c : BurstData) → HasWorked a b → HasWorked b c → HasWorked a c
worked_before a b c h k = record {
  calls = h.calls ++ k.calls;
  worked = worked_both a b c h.calls k.calls h.worked k.worked;
}

pub sent_none : (p : BurstData) → SentSome p p
sent_none p = record { calls = []; worked = worked_none p; only = tt }

unfoldable pub sent_both : (a b c : BurstData) → SentSome a b → SentSome b c → SentSome a c
sent_both a b c h k = record {
  calls = h.calls ++ k.calls;
  worked = worked_both a b c h.calls k.calls h.worked k.worked;
  only = sends_both h.calls k.calls h.only k.only;
}

pub sent_worked : (a b : BurstData) → SentSome a b → HasWorked a b
sent_worked a b h = record { calls = h.calls; worked = h.worked }

unfoldable pub took_both : (asked : ℕ) (a b c : BurstData) → TookIn asked a b → TookIn asked b c → TookIn asked a c
took_both asked a b c h k = record {
  calls = h.calls ++ k.calls;
  worked = worked_both a b c h.calls k.calls h.worked k.worked;
  only = only_both asked h.calls k.calls h.only k.only;
}

pub took_none_in : (asked : ℕ) (p : BurstData) → TookIn asked p p
took_none_in asked p = record { calls = []; worked = worked_none p; only = tt }

-- Single calls of the socket.

pub switch_worked : (waits done : Bool) (old new : BurstData) (s : Switches waits old done new) → Worked old new s.0
switch_worked waits done old new s = by_calls s.0 s.1 s.2
  where
    with_calls : (calls : List SocketCall) → Called old.socket new.socket calls → arrivals_of calls ≡ []
        → departures_of calls ≡ [] → Paces old.burst calls new.burst → new.failed ≡ failed_after calls old.failed
        → Worked old new calls
    with_calls calls called came left paces failed = record {
      called = called;
      peers = ap (λ (p : BurstData). p.peers) s.3;
      takes = subst (λ ds. Takes old.peers ds (arrived_of old) (arrived_of new)) (sym came) (ap arrived_of s.3);
      leaving = sym (ap (λ (p : BurstData). p.leaving) s.3) ∙ ap (λ ds. ds ++ new.leaving) (sym left);
      places = same_le _ _ (ap (λ (p : BurstData). p.places) s.3);
      window = ap (λ (p : BurstData). p.window) s.3;
      unpaced = ap (λ (p : BurstData). p.unpaced) s.3;
      paces = paces;
      failed = failed;
    }

    by_calls : (calls : List SocketCall) → IsSwitch waits calls done → Called old.socket new.socket calls
        → Worked old new calls
    by_calls [] is called =
        with_calls [] called refl refl (ap (λ (p : BurstData). p.burst) s.3) (ap (λ (p : BurstData). p.failed) s.3)
    by_calls (call ∷ []) is called =
        subst (λ c. Worked old new (c ∷ [])) (sym is)
        (with_calls (Switched waits done ∷ []) (subst (λ c. Called old.socket new.socket (c ∷ [])) is called) refl refl
        (tt, ap (λ (p : BurstData). p.burst) s.3) (ap (λ (p : BurstData). p.failed) s.3))
    by_calls (call ∷ next ∷ calls) is called = absurd is

pub switch_only : (asked : ℕ) (done : Bool) (calls : List SocketCall) → IsSwitch false calls done → OnlyTakeIn asked calls
switch_only asked done [] is = tt
switch_only asked done (call ∷ []) is = subst (λ c. OnlyTakeIn asked (c ∷ [])) (sym is) tt
switch_only asked done (call ∷ next ∷ calls) is = absurd is

unfoldable pub switched : (asked : ℕ) (done : Bool) (old new : BurstData) → Switches false old done new → TookIn asked old new
switched asked done old new s = record {
  calls = s.0;
  worked = switch_worked false done old new s;
  only = switch_only asked done s.0 s.1;
}

receives_first : (w waits : Bool) (asked : ℕ) (r : Result (Option (Addr × ℕ)) PortFault) (buffer : List ℕ)
    (tail : List SocketCall) → w ≡ waits → OnlyTakeIn asked tail → ReceivesFirst asked waits (arrival_of w asked r buffer ∷ tail)
receives_first w waits asked (Ok None) buffer tail e only = (e, refl, only)
receives_first w waits asked (Ok (Some p)) buffer tail e only = (e, refl, only)
receives_first w waits asked (Err f) buffer tail e only = (e, refl, only)

waits_first : (w : Bool) (asked : ℕ) (r : Result (Option (Addr × ℕ)) PortFault) (buffer : List ℕ)
    (tail : List SocketCall) → w ≡ true → OnlyTakeIn asked tail → WaitsOnce asked (arrival_of w asked r buffer ∷ tail)
waits_first w asked (Ok None) buffer tail e only = (e, refl, only)
waits_first w asked (Ok (Some p)) buffer tail e only = (e, refl, only)
waits_first w asked (Err f) buffer tail e only = (e, refl, only)

-- the receive after a switch waits, unless the system refused
switch_waits : (done mode : Bool) (calls : List SocketCall) (asked : ℕ) (r : Result (Option (Addr × ℕ)) PortFault) (buffer : List ℕ)
    (tail : List SocketCall) → IsSwitch true calls done → mode ≡ cond done true (not true) → OnlyTakeIn asked tail
    → WaitsOnce asked (calls ++ arrival_of mode asked r buffer ∷ tail)
switch_waits done mode [] asked r buffer tail is e only =
    waits_first mode asked r buffer tail (e ∙ ap (λ d. cond d true (not true)) is) only
switch_waits true mode (call ∷ []) asked r buffer tail is e only =
    subst (λ c. WaitsOnce asked (c ∷ arrival_of mode asked r buffer ∷ tail)) (sym is)
    (refl, receives_first mode true asked r buffer tail e only)
switch_waits false mode (call ∷ []) asked r buffer tail is e only =
    subst (λ c. WaitsOnce asked (c ∷ arrival_of mode asked r buffer ∷ tail)) (sym is)
    (refl, receives_first mode false asked r buffer tail e only)
switch_waits done mode (call ∷ next ∷ calls) asked r buffer tail is e only = absurd is

-- what no receive changes by itself
pub record Keeping (old new : BurstData) : Type 0 where
  pub peers : new.peers ≡ old.peers
  pub leaving : new.leaving ≡ old.leaving
  pub places : new.places ≡ old.places
  pub window : new.window ≡ old.window
  pub unpaced : new.unpaced ≡ old.unpaced
  pub burst : new.burst ≡ old.burst

-- none came, or the receive failed
pub came_none : (old new : BurstData) (waits : Bool) (asked : ℕ) (r : Result (Option (Addr × ℕ)) PortFault) (buffer : List ℕ)
    → old.socket.waits ≡ waits → Called old.socket new.socket (arrival_of old.socket.waits asked r buffer ∷ [])
    → r ≡ Ok None → Keeping old new → arrived_of new ≡ arrived_of old
    → new.failed ≡ failures_after r old.failed
    → Worked old new (NoneCame waits asked ∷ [])
came_none old new waits asked r buffer mode called none k m n = record {
  called = subst (λ c. Called old.socket new.socket (c ∷ [])) (ap (λ w. arrival_of w asked r buffer) mode
      ∙ ap (λ (x : Result (Option (Addr × ℕ)) PortFault). arrival_of waits asked x buffer) none) called;
  peers = k.peers;
  takes = m;
  leaving = sym k.leaving;
  places = same_le _ _ k.places;
  window = k.window;
  unpaced = k.unpaced;
  paces = (tt, k.burst);
  failed = n ∙ ap (λ (x : Result (Option (Addr × ℕ)) PortFault). failures_after x old.failed) none;
}

pub came_failed : (old new : BurstData) (waits : Bool) (asked : ℕ) (r : Result (Option (Addr × ℕ)) PortFault) (buffer : List ℕ)
    (e : PortFault)
    → old.socket.waits ≡ waits → Called old.socket new.socket (arrival_of old.socket.waits asked r buffer ∷ [])
    → r ≡ Err e → Keeping old new → arrived_of new ≡ arrived_of old
    → new.failed ≡ failures_after r old.failed
    → Worked old new (Failed waits asked ∷ [])
came_failed old new waits asked r buffer e mode called none k m n = record {
  called = subst (λ c. Called old.socket new.socket (c ∷ [])) (ap (λ w. arrival_of w asked r buffer) mode
      ∙ ap (λ (x : Result (Option (Addr × ℕ)) PortFault). arrival_of waits asked x buffer) none) called;
  peers = k.peers;
  takes = m;
  leaving = sym k.leaving;
  places = same_le _ _ k.places;
  window = k.window;
  unpaced = k.unpaced;
  paces = (tt, k.burst);
  failed = n ∙ ap (λ (x : Result (Option (Addr × ℕ)) PortFault). failures_after x old.failed) none;
}

-- one waits after those of its kind
joined_messages : (kind : Bool) (ms fs : List Datagram) (d : Datagram) (ns gs : List Datagram) → Joins kind ms fs d ns gs
    → ns ≡ ms ++ cond kind [] (d ∷ [])
joined_messages true ms fs d ns gs j = j.1 ∙ sym (append-nil ms)
joined_messages false ms fs d ns gs j = j.0

joined_frames : (kind : Bool) (ms fs : List Datagram) (d : Datagram) (ns gs : List Datagram) → Joins kind ms fs d ns gs
    → gs ≡ fs ++ cond kind (d ∷ []) []
joined_frames true ms fs d ns gs j = j.0
joined_frames false ms fs d ns gs j = j.1 ∙ sym (append-nil fs)

-- one came, and waits or was dropped
came_one : (old new : BurstData) (waits : Bool) (asked : ℕ) (r : Result (Option (Addr × ℕ)) PortFault) (buffer : List ℕ)
    (from : Addr) (len : ℕ)
    → old.socket.waits ≡ waits → Called old.socket new.socket (arrival_of old.socket.waits asked r buffer ∷ [])
    → r ≡ Ok (Some (from, len)) → Keeping old new
    → Takes old.peers ((from, take len buffer) ∷ []) (arrived_of old) (arrived_of new)
    → new.failed ≡ failures_after r old.failed
    → Worked old new (Came waits asked from (take len buffer) ∷ [])
came_one old new waits asked r buffer from len mode called got k takes n = record {
  called = subst (λ c. Called old.socket new.socket (c ∷ [])) (ap (λ w. arrival_of w asked r buffer) mode
      ∙ ap (λ (x : Result (Option (Addr × ℕ)) PortFault). arrival_of waits asked x buffer) got) called;
  peers = k.peers;
  takes = takes;
  leaving = sym k.leaving;
  places = same_le _ _ k.places;
  window = k.window;
  unpaced = k.unpaced;
  paces = (tt, k.burst);
  failed = n ∙ ap (λ (x : Result (Option (Addr × ℕ)) PortFault). failures_after x old.failed) got;
}

arrival_keeps : (w waits : Bool) (asked : ℕ) (r : Result (Option (Addr × ℕ)) PortFault) (buffer : List ℕ)
    → mode_after w (arrival_of waits asked r buffer ∷ []) ≡ w
arrival_keeps w waits asked (Ok None) buffer = refl
arrival_keeps w waits asked (Ok (Some p)) buffer = refl
arrival_keeps w waits asked (Err e) buffer = refl

-- a receive does not change whether receives wait
pub mode_kept : (a b : SocketState) (waits : Bool) (asked : ℕ) (r : Result (Option (Addr × ℕ)) PortFault) (buffer : List ℕ)
    → a.waits ≡ waits → Called a b (arrival_of a.waits asked r buffer ∷ []) → b.waits ≡ waits
mode_kept a b waits asked r buffer mode called = called.waits ∙ arrival_keeps a.waits a.waits asked r buffer ∙ mode

-- the clock was read
unfoldable pub clock_read : (old new : BurstData) (t : Option ℕ) → Called old.socket new.socket (ClockRead t ∷ [])
    → new.burst ≡ after old.burst (ClockRead t) → new ≡ record old { socket = new.socket; burst = new.burst }
    → SentSome old new
clock_read old new t called burst rest = record {
  calls = ClockRead t ∷ [];
  worked = record {
    called = called;
    peers = ap (λ (p : BurstData). p.peers) rest;
    takes = ap arrived_of rest;
    leaving = sym (ap (λ (p : BurstData). p.leaving) rest);
    places = same_le _ _ (ap (λ (p : BurstData). p.places) rest);
    window = ap (λ (p : BurstData). p.window) rest;
    unpaced = ap (λ (p : BurstData). p.unpaced) rest;
    paces = (tt, burst);
    failed = ap (λ (p : BurstData). p.failed) rest;
  };
  only = tt;
}

pub clock_stays : (b : Burst) (t : Option ℕ) (now : ℕ) → t ≡ Some now → is_over b.began now ≡ false
    → b ≡ after b (ClockRead t)
clock_stays b t now e over = rw (e, over) refl

pub clock_none : (b : Burst) (t : Option ℕ) → t ≡ None → b ≡ after b (ClockRead t)
clock_none b t e = rw e refl

-- the first one that waited to be sent was handed to the socket
pub sent_one : (old new : BurstData) (r : Result (Unit {0}) PortFault) (s : PacketData)
    → Called old.socket new.socket (departure_of r s ∷ []) → old.leaving ≡ (s.to, s.octets) ∷ new.leaving
    → old.burst.sent < BURST → new.burst ≡ record { began = old.burst.began; sent = old.burst.sent + 1 }
    → new.failed ≡ failures_after r old.failed → new.peers ≡ old.peers
    → arrived_of new ≡ arrived_of old → new.places ≤ old.places → new.window ≡ old.window → new.unpaced ≡ old.unpaced
    → SentSome old new
sent_one old new (Ok u) s called left room burst failed peers came places window unpaced = record {
  calls = Sent s ∷ [];
  worked = record {
    called = called;
    peers = peers;
    takes = came;
    leaving = left;
    places = places;
    window = window;
    unpaced = unpaced;
    paces = (room, burst);
    failed = failed;
  };
  only = tt;
}
sent_one old new (Err e) s called left room burst failed peers came places window unpaced = record {
  calls = Unsent s ∷ [];
  worked = record {
    called = called;
    peers = peers;
    takes = came;
    leaving = left;
    places = places;
    window = window;
    unpaced = unpaced;
    paces = (room, burst);
    failed = failed;
  };
  only = tt;
}

-- Handing on.

-- but for what came, nothing changed, and of that nothing either
pub same_data : (old new : BurstData) → new ≡ record old { messages = new.messages; frames = new.frames }
    → new.messages ≡ old.messages → new.frames ≡ old.frames → new ≡ old
same_data old new rest m f =
    rest ∙ ap (λ ms. record old { messages = ms; frames = new.frames }) m
    ∙ ap (λ fs. record old { messages = old.messages; frames = fs }) f

pub hands_next : (asked room : ℕ) (old new : BurstData) (got : Option (Addr × ℕ)) (buffer : List ℕ) → room ≡ asked
    → (taken : Option Datagram) × TookOut old.messages old.frames taken new.messages new.frames × HandsOn room taken got buffer
    → new ≡ record old { messages = new.messages; frames = new.frames }
    → HandsNextOn asked old (Ok got) buffer new
hands_next asked room old new got buffer size h rest =
    (h.0, h.1, subst (λ n. HandsOn n h.0 got buffer) size h.2, rest)

pub none_or : {X : Type 0} (x : X) → None ≡ Some x → ⊥
none_or x e = absurd (let bad : None ≡ Some x = e in cc)

pub took_none : (ms fs : List Datagram) (ns gs : List Datagram) → TookOut ms fs None ns gs → (ns ≡ ms) × (gs ≡ fs)
took_none [] [] ns gs t = (t.1, t.2)
took_none [] (d ∷ fs) ns gs t = absurd (none_or d t.0)
took_none (d ∷ ms) fs ns gs t = absurd (none_or d t.0)

-- where nothing is handed on, nothing waits
took_none_waits : (ms fs : List Datagram) (ns gs : List Datagram) → TookOut ms fs None ns gs → (ns ≡ []) × (gs ≡ [])
took_none_waits [] [] ns gs t = (t.1, t.2)
took_none_waits [] (d ∷ fs) ns gs t = absurd (none_or d t.0)
took_none_waits (d ∷ ms) fs ns gs t = absurd (none_or d t.0)

pub none_waits : (room : ℕ) (ms fs ns gs : List Datagram) (buffer : List ℕ)
    → (taken : Option Datagram) × TookOut ms fs taken ns gs × HandsOn room taken None buffer → (ns ≡ []) × (gs ≡ [])
none_waits room ms fs ns gs buffer (None, took, hands) = took_none_waits ms fs ns gs took
none_waits room ms fs ns gs buffer (Some d, took, hands) =
    absurd (none_or (d.0, min (length d.1) room) hands.0)

-- and nothing changed
pub nothing_handed : (room : ℕ) (old new : BurstData) (buffer : List ℕ)
    → (taken : Option Datagram) × TookOut old.messages old.frames taken new.messages new.frames × HandsOn room taken None buffer
    → new ≡ record old { messages = new.messages; frames = new.frames } → new ≡ old
nothing_handed room old new buffer (None, took, hands) rest =
    let t = took_none old.messages old.frames new.messages new.frames took in same_data old new rest t.0 t.1
nothing_handed room old new buffer (Some d, took, hands) rest =
    absurd (none_or (d.0, min (length d.1) room) hands.0)

pub fills_one : (asked : ℕ) (from : Addr) (n : ℕ) (buffer : List ℕ) → n ≤ asked → length buffer ≡ asked
    → Fills asked (from, take n buffer) (Some (from, n)) buffer
fills_one asked from n buffer fits size = (rw least refl, rw least (sym (take_all asked (take n buffer) (rw whole fits))))
  where
    whole : length (take n buffer) ≡ n
    whole = length-take-le n buffer (rw size fits)

    least : min (length (take n buffer)) asked ≡ n
    least = rw whole (min-eq_left fits)

pub took_only : (kind : Bool) (d : Datagram) (ms fs : List Datagram) → ms ≡ [] → fs ≡ []
    → TookOut (ms ++ cond kind [] (d ∷ [])) (fs ++ cond kind (d ∷ []) []) (Some d) ms fs
took_only true d ms fs m f = rw (m, f) (refl, refl, refl)
took_only false d ms fs m f = rw (m, f) (refl, refl, refl)

some_waits : (kind : Bool) (d : Datagram) (ms fs : List Datagram) → ms ≡ [] → fs ≡ []
    → has_waiting (ms ++ cond kind [] (d ∷ [])) (fs ++ cond kind (d ∷ []) []) ≡ false → ⊥
some_waits true d ms fs m f free =
    let bad : true ≡ false = subst (λ x. has_waiting (x ++ []) (d ∷ []) ≡ false) m
    (subst (λ y. has_waiting (ms ++ []) (y ++ d ∷ []) ≡ false) f free) in cc
some_waits false d ms fs m f free =
    let bad : true ≡ false = subst (λ x. has_waiting (x ++ d ∷ []) (fs ++ []) ≡ false) m free in cc

-- nothing waited, and what came is handed on at once
pub at_once : (asked : ℕ) (old new : BurstData) (from : Addr) (n : ℕ) (buffer : List ℕ) → IsIdle old → n ≤ asked
    → length buffer ≡ asked → new ≡ old
    → TakesThenHandsOn asked (joined (from, take n buffer) old) (Ok (Some (from, n))) buffer new
at_once asked old new from n buffer idle fits size same = record {
  mid = joined (from, take n buffer) old;
  took = took_none_in asked (joined (from, take n buffer) old);
  listens = λ free. absurd (some_waits (is_frame old.peers (from, take n buffer)) (from, take n buffer) old.messages old.frames
      idle.messages idle.frames free);
  hands_on = subst (λ p. HandsNextOn asked (joined (from, take n buffer) old) (Ok (Some (from, n))) buffer p) (sym same) (
    Some (from, take n buffer),
    took_only (is_frame old.peers (from, take n buffer)) (from, take n buffer) old.messages old.frames idle.messages idle.frames,
    fills_one asked from n buffer fits size,
    refl,
  );
}

-- one that was kept waits
pub kept_joined : (kind : Bool) (d : Datagram) (old new : BurstData) → kind ≡ is_frame old.peers d
    → Joins kind old.messages old.frames d new.messages new.frames
    → new ≡ record old { messages = new.messages; frames = new.frames } → new ≡ joined d old
kept_joined kind d old new is j rest =
    rest ∙ ap (λ ms. record old { messages = ms; frames = new.frames }) (joined_messages kind _ _ _ _ _ j
    ∙ ap (λ k. old.messages ++ cond k [] (d ∷ [])) is)
    ∙ ap (λ fs. record old { messages = old.messages ++ messages_of old.peers (d ∷ []); frames = fs })
    (joined_frames kind _ _ _ _ _ j ∙ ap (λ k. old.frames ++ cond k (d ∷ []) []) is)

-- and is one of what is handed on
pub burst_takes : (asked : ℕ) (d : Datagram) (old kept new : BurstData) (r : Result (Option (Addr × ℕ)) PortFault) (buffer : List ℕ)
    → kept ≡ joined d old → TakesThenHandsOn asked kept r buffer new → TakesThenHandsOn asked (joined d old) r buffer new
burst_takes asked d old kept new r buffer same w = subst (λ p. TakesThenHandsOn asked p r buffer new) same w

-- One receive of a port.

once_listens_for : (asked : ℕ) (r : Result (Option (Addr × ℕ)) PortFault) (old : BurstData) (calls : List SocketCall)
    → WaitsOnce asked calls → ListensFor r old calls
once_listens_for asked (Ok got) old calls once = λ free. once_listens asked calls once
once_listens_for asked (Err e) old calls once = tt

-- all but the socket and the count of failures is as before
abbrev pub Asked : BurstData → BurstData → Result (Option (Addr × ℕ)) PortFault → Type 0
Asked old new r = new ≡ record old { socket = new.socket; failed = failures_after r old.failed }

pub keeping : (old new : BurstData) (r : Result (Option (Addr × ℕ)) PortFault) → Asked old new r → Keeping old new
keeping old new r rest = record {
  peers = ap (λ (p : BurstData). p.peers) rest;
  leaving = ap (λ (p : BurstData). p.leaving) rest;
  places = ap (λ (p : BurstData). p.places) rest;
  window = ap (λ (p : BurstData). p.window) rest;
  unpaced = ap (λ (p : BurstData). p.unpaced) rest;
  burst = ap (λ (p : BurstData). p.burst) rest;
}

pub waited_none : (asked : ℕ) (old mid new : BurstData) (done : Bool) (r : Result (Option (Addr × ℕ)) PortFault) (buffer : List ℕ)
    → IsIdle old → Switches true old done mid
    → Called mid.socket new.socket (arrival_of mid.socket.waits asked r buffer ∷ []) → Asked mid new r → r ≡ Ok None
    → Receives asked old (Ok None) buffer new
waited_none asked old mid new done r buffer idle s called rest none = record {
  calls = s.0 ++ NoneCame mid.socket.waits asked ∷ [];
  mid = new;
  worked = all;
  hands_on = (None, rw (no_messages, no_frames) (refl, refl, refl), refl, refl);
  idle = λ i. switch_waits done mid.socket.waits s.0 asked (Ok None) buffer [] s.1 s.4 tt;
  busy = λ b. absurd (b idle);
  sends = λ some. absurd (some idle.leaving);
  listens = λ free. once_listens asked _ (switch_waits done mid.socket.waits s.0 asked (Ok None) buffer [] s.1 s.4 tt);
}
  where
    all : Worked old new (s.0 ++ NoneCame mid.socket.waits asked ∷ [])
    all = worked_both old mid new s.0 (NoneCame mid.socket.waits asked ∷ []) (switch_worked true done old mid s)
        (came_none mid new mid.socket.waits asked r buffer refl called none (keeping mid new r rest)
        (ap arrived_of rest) (ap (λ (p : BurstData). p.failed) rest))

    no_messages : new.messages ≡ []
    no_messages = ap (λ (p : BurstData). p.messages) rest ∙ ap (λ (p : BurstData). p.messages) s.3 ∙ idle.messages

    no_frames : new.frames ≡ []
    no_frames = ap (λ (p : BurstData). p.frames) rest ∙ ap (λ (p : BurstData). p.frames) s.3 ∙ idle.frames

pub waited_failed : (asked : ℕ) (old mid new : BurstData) (done : Bool) (r : Result (Option (Addr × ℕ)) PortFault) (buffer : List ℕ)
    (e : PortFault) → IsIdle old → Switches true old done mid
    → Called mid.socket new.socket (arrival_of mid.socket.waits asked r buffer ∷ []) → Asked mid new r → r ≡ Err e
    → Receives asked old (Err e) buffer new
waited_failed asked old mid new done r buffer e idle s called rest none = record {
  calls = s.0 ++ Failed mid.socket.waits asked ∷ [];
  mid = new;
  worked = worked_both old mid new s.0 (Failed mid.socket.waits asked ∷ []) (switch_worked true done old mid s)
      (came_failed mid new mid.socket.waits asked r buffer e refl called none (keeping mid new r rest)
      (ap arrived_of rest) (ap (λ (p : BurstData). p.failed) rest));
  hands_on = refl;
  idle = λ i. switch_waits done mid.socket.waits s.0 asked (Err e) buffer [] s.1 s.4 tt;
  busy = λ b. absurd (b idle);
  sends = λ some. absurd (some idle.leaving);
  listens = tt;
}

-- one came, and waits before it is handed on
pub came_joined : (mid p : BurstData) (waits : Bool) (asked : ℕ) (r : Result (Option (Addr × ℕ)) PortFault) (buffer : List ℕ)
    (from : Addr) (n : ℕ) → mid.socket.waits ≡ waits
    → Called mid.socket p.socket (arrival_of mid.socket.waits asked r buffer ∷ []) → Asked mid p r
    → r ≡ Ok (Some (from, n)) → Worked mid (joined (from, take n buffer) p) (Came waits asked from (take n buffer) ∷ [])
came_joined mid p waits asked r buffer from n mode called rest got =
    came_one mid (joined (from, take n buffer) p) waits asked r buffer from n mode called got
    (record { peers = k.peers; leaving = k.leaving; places = k.places; window = k.window; unpaced = k.unpaced; burst = k.burst })
    (inl (ap (λ (x : BurstData). arrived_of (joined (from, take n buffer) x)) rest)) (ap (λ (x : BurstData). x.failed) rest)
  where
    k : Keeping mid p
    k = keeping mid p r rest

-- one came, and others of its kind wait
came_dropped : (mid p : BurstData) (waits : Bool) (asked : ℕ) (r : Result (Option (Addr × ℕ)) PortFault) (buffer : List ℕ)
    (from : Addr) (n : ℕ) → mid.socket.waits ≡ waits
    → Called mid.socket p.socket (arrival_of mid.socket.waits asked r buffer ∷ []) → Asked mid p r
    → r ≡ Ok (Some (from, n)) → OthersWait (is_frame mid.peers (from, take n buffer)) mid.messages mid.frames
    → Worked mid (record p { dropped = one_dropped (is_frame p.peers (from, take n buffer)) p.dropped }) (Came waits asked from (take n buffer) ∷ [])
came_dropped mid p waits asked r buffer from n mode called rest got others =
    came_one mid (record p { dropped = one_dropped (is_frame p.peers (from, take n buffer)) p.dropped }) waits asked r buffer from n mode called got
    (record { peers = k.peers; leaving = k.leaving; places = k.places; window = k.window; unpaced = k.unpaced; burst = k.burst })
    (inr (others, ap (λ (x : BurstData). without_one x.peers (from, take n buffer) (arrived_of x)) rest)) (ap (λ (x : BurstData). x.failed) rest)
  where
    k : Keeping mid p
    k = keeping mid p r rest

pub came_kept : (mid p q : BurstData) (waits : Bool) (asked : ℕ) (r : Result (Option (Addr × ℕ)) PortFault) (buffer : List ℕ)
    (from : Addr) (n : ℕ) → mid.socket.waits ≡ waits
    → Called mid.socket p.socket (arrival_of mid.socket.waits asked r buffer ∷ []) → Asked mid p r
    → r ≡ Ok (Some (from, n)) → KeepsOrDrops (from, take n buffer) p q
    → Worked mid q (Came waits asked from (take n buffer) ∷ [])
came_kept mid p q waits asked r buffer from n mode called rest got (inl same) =
    subst (λ x. Worked mid x (Came waits asked from (take n buffer) ∷ [])) (sym same)
    (came_joined mid p waits asked r buffer from n mode called rest got)
came_kept mid p q waits asked r buffer from n mode called rest got (inr h) =
    subst (λ x. Worked mid x (Came waits asked from (take n buffer) ∷ [])) (sym h.1)
    (came_dropped mid p waits asked r buffer from n mode called rest got
    (subst (λ (x : BurstData). OthersWait (is_frame x.peers (from, take n buffer)) x.messages x.frames) rest h.0))

-- where nothing waits, what comes is kept
pub none_others : (kind : Bool) (ms fs : List Datagram) → ms ≡ [] → fs ≡ [] → OthersWait kind ms fs → ⊥
none_others true ms fs m f others = others f
none_others false ms fs m f others = others m

kept_at_once : (d : Datagram) (old new : BurstData) → IsIdle old → KeepsOrDrops d old new → new ≡ joined d old
kept_at_once d old new idle (inl same) = same
kept_at_once d old new idle (inr h) =
    absurd (none_others (is_frame old.peers d) old.messages old.frames idle.messages idle.frames h.0)

pub kept_first : (d : Datagram) (old mid new : BurstData) → mid ≡ old → IsIdle old → KeepsOrDrops d mid new → new ≡ joined d old
kept_first d old mid new same idle k = kept_at_once d old new idle (subst (λ x. KeepsOrDrops d x new) same k)

pub waited_one : (asked room : ℕ) (old mid p new : BurstData) (done : Bool) (r q : Result (Option (Addr × ℕ)) PortFault)
    (buffer after_all : List ℕ) (from : Addr) (n : ℕ) → IsIdle old → Switches true old done mid
    → Called mid.socket p.socket (arrival_of mid.socket.waits asked r buffer ∷ []) → Asked mid p r
    → r ≡ Ok (Some (from, n)) → room ≡ asked
    → TakesThenHandsOn room (joined (from, take n buffer) p) q after_all new
    → Receives asked old q after_all new
waited_one asked room old mid p new done r q buffer after_all from n idle s called rest got size w = record {
  calls = (s.0 ++ Came mid.socket.waits asked from (take n buffer) ∷ []) ++ w.took.calls;
  mid = w.mid;
  worked = worked_both old (joined d p) w.mid (s.0 ++ call ∷ []) w.took.calls
      (worked_both old mid (joined d p) s.0 (call ∷ []) (switch_worked true done old mid s) came) w.took.worked;
  hands_on = subst (λ k. HandsNextOn k w.mid q after_all new) size w.hands_on;
  idle = λ i. once;
  busy = λ b. absurd (b idle);
  sends = λ some. absurd (some idle.leaving);
  listens = once_listens_for asked q old _ once;
}
  where
    once : WaitsOnce asked ((s.0 ++ Came mid.socket.waits asked from (take n buffer) ∷ []) ++ w.took.calls)
    once = subst (WaitsOnce asked) (sym (append_assoc s.0 (Came mid.socket.waits asked from (take n buffer) ∷ []) w.took.calls))
        (switch_waits done mid.socket.waits s.0 asked (Ok (Some (from, n))) buffer w.took.calls s.1 s.4
        (subst (λ k. OnlyTakeIn k w.took.calls) size w.took.only))

    d : Datagram
    d = (from, take n buffer)

    call : SocketCall
    call = Came mid.socket.waits asked from (take n buffer)

    came : Worked mid (joined (from, take n buffer) p) (Came mid.socket.waits asked from (take n buffer) ∷ [])
    came = came_joined mid p mid.socket.waits asked r buffer from n refl called rest got

-- something waited
pub worked_busy : (asked : ℕ) (old new : BurstData) (r : Result (Option (Addr × ℕ)) PortFault) (buffer : List ℕ)
    → (IsIdle old → ⊥) → WorksThenHandsOn asked old r buffer new → Receives asked old r buffer new
worked_busy asked old new r buffer busy w = record {
  calls = w.worked_on.calls;
  mid = w.mid;
  worked = w.worked_on.worked;
  hands_on = w.hands_on;
  idle = λ i. absurd (busy i);
  busy = λ b. w.worked_on.works;
  sends = w.worked_on.sends;
  listens = w.listens;
}

pub not_so : (b : Bool) (P : Type 0) → b ≡ false → (P → b ≡ true) → P → ⊥
not_so b P e f p = let bad : false ≡ true = sym e ∙ f p in cc

-- What waits to be sent gets no longer by working.

append_longer : (xs ys : List Datagram) → length ys ≤ length (xs ++ ys)
append_longer xs ys = grind (arith, length-append)

pub worked_shorter : (p q : BurstData) (calls : List SocketCall) → Worked p q calls → length q.leaving ≤ length p.leaving
worked_shorter p q calls w =
    subst (λ ds. length q.leaving ≤ length ds) (sym w.leaving) (append_longer (departures_of calls) q.leaving)

pub empty_last : (xs ys : List Datagram) → xs ++ ys ≡ [] → ys ≡ []
empty_last [] ys e = e
empty_last (x ∷ xs) ys e = let bad : x ∷ (xs ++ ys) ≡ [] = e in cc

-- where nothing waited to be sent, nothing does
pub none_left : (asked : ℕ) (p q : BurstData) (r : Result (Option (Addr × ℕ)) PortFault) (buffer : List ℕ)
    → Receives asked p r buffer q → p.leaving ≡ [] → q.leaving ≡ []
none_left asked p q (Ok got) buffer w e =
    ap (λ (x : BurstData). x.leaving) w.hands_on.3
    ∙ empty_last (departures_of w.calls) w.mid.leaving (sym w.worked.leaving ∙ e)
none_left asked p q (Err f) buffer w e =
    ap (λ (x : BurstData). x.leaving) w.hands_on
    ∙ empty_last (departures_of w.calls) w.mid.leaving (sym w.worked.leaving ∙ e)

pub fresh_has_room : (n : ℕ) → n ≡ 0 → n < BURST
fresh_has_room n e = rw e (lit< tt)

pub then_shorter : (ps ts : List Datagram) (n s f : ℕ) → n < length ps → ps ≡ ts → length ts ≤ s → s ≤ f → n < f
then_shorter ps ts n s f h e k m = chain (length ts) (subst (λ ds. n < length ds) e h) k
  where
    chain : (t : ℕ) → n < t → t ≤ s → n < f
    chain t a b = omega arith

-- a turn of the outbox began
pub turned : (p : BurstData) (o : OutboxData)
    → o ≡ record { waiting = p.leaving; places = p.places; window = next_turn p.window }
    → record p { leaving = o.waiting; places = o.places; window = o.window } ≡ turn_begun p
turned p o e =
    ap (λ (x : OutboxData). record p { leaving = x.waiting; places = x.places; window = x.window }) e

-- the turn of an outbox began before a port received
pub received_after : (asked : ℕ) (p q : BurstData) (o : OutboxData) (r : Result (Option (Addr × ℕ)) PortFault) (buffer : List ℕ)
    → o ≡ record { waiting = p.leaving; places = p.places; window = next_turn p.window }
    → Receives asked (record p { leaving = o.waiting; places = o.places; window = o.window }) r buffer q
    → Receives asked (turn_begun p) r buffer q
received_after asked p q o r buffer e w = subst (λ x. Receives asked x r buffer q) (turned p o e) w
