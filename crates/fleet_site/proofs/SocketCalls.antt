-- Lists of calls of a socket, one after the other.
-- Serves what `Busy`, `Carried`, `Flowing`, `Working` serve.
use Rattle.std.proofs.Common.{◌≡◌, ℕ, Bool, true, false, cond, List, [], ◌∷◌, ◌++◌, Option, Some, None, refl, sym, ap, subst, ◌∙◌, append_assoc, ◌⊎◌, inl, inr}
use Rattle.std.proofs.lemmas.List.{append-nil}
use Rattle.fleet_pending.specs.declared.addr.Addr.{Addr}
use Rattle.fleet_site.specs.server.PortRecord.{one_more}
use Rattle.fleet_site.specs.socket.SocketRecord.{SocketCall, Came, NoneCame, Failed, Sent, Unsent, ClockRead, Paused, Switched, SocketState, HasNoted, Called, mode_after}
use Rattle.fleet_site.specs.socket.Waiting.{Datagram, is_frame, messages_of, frames_of, arrivals_of, departures_of}
use Rattle.fleet_site.specs.socket.Pace.{Burst, after, Paces}
use Rattle.fleet_site.specs.socket.Bursts.{Works, Listens, OnlyTakeIn, OnlySends, ReceivesFirst, WaitsOnce, IsPause, failed_after}

mode_after-append : (xs ys : List SocketCall) (w : Bool) → mode_after w (xs ++ ys) ≡ mode_after (mode_after w xs) ys
mode_after-append [] ys w = refl
mode_after-append (Came v asked from octets ∷ xs) ys w = mode_after-append xs ys w
mode_after-append (NoneCame v asked ∷ xs) ys w = mode_after-append xs ys w
mode_after-append (Failed v asked ∷ xs) ys w = mode_after-append xs ys w
mode_after-append (Sent s ∷ xs) ys w = mode_after-append xs ys w
mode_after-append (Unsent s ∷ xs) ys w = mode_after-append xs ys w
mode_after-append (ClockRead t ∷ xs) ys w = mode_after-append xs ys w
mode_after-append (Paused ∷ xs) ys w = mode_after-append xs ys w
mode_after-append (Switched v true ∷ xs) ys w = mode_after-append xs ys v
mode_after-append (Switched v false ∷ xs) ys w = mode_after-append xs ys w

pub noted_none : {C : Type 0} (old : Option (List C)) → HasNoted old [] old
noted_none None = tt
noted_none (Some noted) = (noted, refl, sym (append-nil noted))

noted_both : {C : Type 0} (old mid new : Option (List C)) (cs ds : List C) → HasNoted old cs mid
    → HasNoted mid ds new → HasNoted old (cs ++ ds) new
noted_both old mid None cs ds h k = tt
noted_both old None (Some now) cs ds h k = let e : None ≡ Some k.0 = k.1 in cc
noted_both old (Some mid) (Some now) cs ds h k =
    let q : k.0 ≡ mid = (let z : Some mid ≡ Some k.0 = k.1 in cc) in
    (h.0, h.1, k.2 ∙ ap (λ xs. xs ++ ds) (q ∙ h.2) ∙ append_assoc h.0 cs ds)

pub called_none : (s : SocketState) → Called s s []
called_none s = record { noted = noted_none s.noted; waits = refl }

pub called_both : (a b c : SocketState) (xs ys : List SocketCall) → Called a b xs → Called b c ys
    → Called a c (xs ++ ys)
called_both a b c xs ys h k = record {
  noted = noted_both a.noted b.noted c.noted xs ys h.noted k.noted;
  waits = k.waits ∙ ap (λ w. mode_after w ys) h.waits ∙ sym (mode_after-append xs ys a.waits);
}

pub arrivals_of-append : (xs ys : List SocketCall) → arrivals_of (xs ++ ys) ≡ arrivals_of xs ++ arrivals_of ys
arrivals_of-append [] ys = refl
arrivals_of-append (Came v asked from octets ∷ xs) ys = ap (λ ds. (from, octets) ∷ ds) (arrivals_of-append xs ys)
arrivals_of-append (NoneCame v asked ∷ xs) ys = arrivals_of-append xs ys
arrivals_of-append (Failed v asked ∷ xs) ys = arrivals_of-append xs ys
arrivals_of-append (Sent s ∷ xs) ys = arrivals_of-append xs ys
arrivals_of-append (Unsent s ∷ xs) ys = arrivals_of-append xs ys
arrivals_of-append (ClockRead t ∷ xs) ys = arrivals_of-append xs ys
arrivals_of-append (Paused ∷ xs) ys = arrivals_of-append xs ys
arrivals_of-append (Switched v done ∷ xs) ys = arrivals_of-append xs ys

pub departures_of-append : (xs ys : List SocketCall) → departures_of (xs ++ ys) ≡ departures_of xs ++ departures_of ys
departures_of-append [] ys = refl
departures_of-append (Came v asked from octets ∷ xs) ys = departures_of-append xs ys
departures_of-append (NoneCame v asked ∷ xs) ys = departures_of-append xs ys
departures_of-append (Failed v asked ∷ xs) ys = departures_of-append xs ys
departures_of-append (Sent s ∷ xs) ys = ap (λ ds. (s.to, s.octets) ∷ ds) (departures_of-append xs ys)
departures_of-append (Unsent s ∷ xs) ys = ap (λ ds. (s.to, s.octets) ∷ ds) (departures_of-append xs ys)
departures_of-append (ClockRead t ∷ xs) ys = departures_of-append xs ys
departures_of-append (Paused ∷ xs) ys = departures_of-append xs ys
departures_of-append (Switched v done ∷ xs) ys = departures_of-append xs ys

pub without : (b : Bool) (d : Datagram) (all first rest : List Datagram) → all ≡ first ++ rest
    → cond b all (d ∷ all) ≡ cond b first (d ∷ first) ++ rest
without true d all first rest e = e
without false d all first rest e = ap (λ xs. d ∷ xs) e

pub within : (b : Bool) (d : Datagram) (all first rest : List Datagram) → all ≡ first ++ rest
    → cond b (d ∷ all) all ≡ cond b (d ∷ first) first ++ rest
within true d all first rest e = ap (λ xs. d ∷ xs) e
within false d all first rest e = e

pub messages_of-append : (ps : List Addr) (ds es : List Datagram)
    → messages_of ps (ds ++ es) ≡ messages_of ps ds ++ messages_of ps es
messages_of-append ps [] es = refl
messages_of-append ps (d ∷ ds) es =
    without (is_frame ps d) d (messages_of ps (ds ++ es)) (messages_of ps ds) (messages_of ps es)
    (messages_of-append ps ds es)

pub frames_of-append : (ps : List Addr) (ds es : List Datagram)
    → frames_of ps (ds ++ es) ≡ frames_of ps ds ++ frames_of ps es
frames_of-append ps [] es = refl
frames_of-append ps (d ∷ ds) es =
    within (is_frame ps d) d (frames_of ps (ds ++ es)) (frames_of ps ds) (frames_of ps es)
    (frames_of-append ps ds es)

pub failed_after-append : (xs ys : List SocketCall) (n : ℕ) → failed_after (xs ++ ys) n ≡ failed_after ys (failed_after xs n)
failed_after-append [] ys n = refl
failed_after-append (Came v asked from octets ∷ xs) ys n = failed_after-append xs ys n
failed_after-append (NoneCame v asked ∷ xs) ys n = failed_after-append xs ys n
failed_after-append (Failed v asked ∷ xs) ys n = failed_after-append xs ys (one_more n)
failed_after-append (Sent s ∷ xs) ys n = failed_after-append xs ys n
failed_after-append (Unsent s ∷ xs) ys n = failed_after-append xs ys (one_more n)
failed_after-append (ClockRead t ∷ xs) ys n = failed_after-append xs ys n
failed_after-append (Paused ∷ xs) ys n = failed_after-append xs ys n
failed_after-append (Switched v done ∷ xs) ys n = failed_after-append xs ys n

pub paces_both : (b c d : Burst) (xs ys : List SocketCall) → Paces b xs c → Paces c ys d → Paces b (xs ++ ys) d
paces_both b c d [] ys h k = subst (λ x. Paces x ys d) h k
paces_both b c d (x ∷ xs) ys h k = (h.0, paces_both (after b x) c d xs ys h.1 k)

pub pause_longer : (b : Burst) (xs ys : List SocketCall) → IsPause b xs → IsPause b (xs ++ ys)
pause_longer b [] ys h = absurd h
pause_longer b (ClockRead t ∷ xs) ys h = h
pause_longer b (Came v asked from octets ∷ xs) ys h = absurd h
pause_longer b (NoneCame v asked ∷ xs) ys h = absurd h
pause_longer b (Failed v asked ∷ xs) ys h = absurd h
pause_longer b (Sent s ∷ xs) ys h = absurd h
pause_longer b (Unsent s ∷ xs) ys h = absurd h
pause_longer b (Paused ∷ xs) ys h = absurd h
pause_longer b (Switched v done ∷ xs) ys h = absurd h

pub only_both : (asked : ℕ) (xs ys : List SocketCall) → OnlyTakeIn asked xs → OnlyTakeIn asked ys
    → OnlyTakeIn asked (xs ++ ys)
only_both asked [] ys h k = k
only_both asked (Came v m from octets ∷ xs) ys h k = (h.0, h.1, only_both asked xs ys h.2 k)
only_both asked (NoneCame v m ∷ xs) ys h k = (h.0, h.1, only_both asked xs ys h.2 k)
only_both asked (Failed v m ∷ xs) ys h k = (h.0, h.1, only_both asked xs ys h.2 k)
only_both asked (Sent s ∷ xs) ys h k = absurd h
only_both asked (Unsent s ∷ xs) ys h k = absurd h
only_both asked (ClockRead t ∷ xs) ys h k = absurd h
only_both asked (Paused ∷ xs) ys h k = absurd h
only_both asked (Switched false done ∷ xs) ys h k = only_both asked xs ys h k
only_both asked (Switched true done ∷ xs) ys h k = absurd h

pub sends_both : (xs ys : List SocketCall) → OnlySends xs → OnlySends ys → OnlySends (xs ++ ys)
sends_both [] ys h k = k
sends_both (Came v m from octets ∷ xs) ys h k = absurd h
sends_both (NoneCame v m ∷ xs) ys h k = absurd h
sends_both (Failed v m ∷ xs) ys h k = absurd h
sends_both (Sent s ∷ xs) ys h k = sends_both xs ys h k
sends_both (Unsent s ∷ xs) ys h k = sends_both xs ys h k
sends_both (ClockRead t ∷ xs) ys h k = sends_both xs ys h k
sends_both (Paused ∷ xs) ys h k = absurd h
sends_both (Switched v done ∷ xs) ys h k = absurd h

-- without a pause it does not matter what waits
pub works_any : (asked : ℕ) (waits listened other : Bool) (xs : List SocketCall) → Works asked true other xs
    → Works asked waits listened xs
works_any asked waits listened other [] h = tt
works_any asked waits listened other (Came v m from octets ∷ xs) h = h
works_any asked waits listened other (NoneCame v m ∷ xs) h = (h.0, h.1, works_any asked waits true true xs h.2)
works_any asked waits listened other (Failed v m ∷ xs) h = (h.0, h.1, works_any asked waits true true xs h.2)
works_any asked waits listened other (Sent s ∷ xs) h = works_any asked waits listened other xs h
works_any asked waits listened other (Unsent s ∷ xs) h = works_any asked waits listened other xs h
works_any asked waits listened other (ClockRead t ∷ xs) h = works_any asked waits listened other xs h
works_any asked waits listened other (Paused ∷ xs) h = absurd (let bad : true ≡ false = h.0 in cc)
works_any asked waits listened other (Switched false false ∷ xs) h = works_any asked waits true true xs h
works_any asked waits listened other (Switched false true ∷ xs) h = works_any asked waits listened other xs h
works_any asked waits listened other (Switched true done ∷ xs) h = works_any asked waits listened other xs h

pub works_both : (asked : ℕ) (waits listened : Bool) (xs ys : List SocketCall) → Works asked waits listened xs
    → Works asked true false ys → Works asked waits listened (xs ++ ys)
works_both asked waits listened [] ys h k = works_any asked waits listened false ys k
works_both asked waits listened (Came v m from octets ∷ xs) ys h k = (h.0, h.1, works_both asked true true xs ys h.2 k)
works_both asked waits listened (NoneCame v m ∷ xs) ys h k = (h.0, h.1, works_both asked waits true xs ys h.2 k)
works_both asked waits listened (Failed v m ∷ xs) ys h k = (h.0, h.1, works_both asked waits true xs ys h.2 k)
works_both asked waits listened (Sent s ∷ xs) ys h k = works_both asked waits listened xs ys h k
works_both asked waits listened (Unsent s ∷ xs) ys h k = works_both asked waits listened xs ys h k
works_both asked waits listened (ClockRead t ∷ xs) ys h k = works_both asked waits listened xs ys h k
works_both asked waits listened (Paused ∷ xs) ys h k = (h.0, h.1, works_both asked waits false xs ys h.2 k)
works_both asked waits listened (Switched false false ∷ xs) ys h k = works_both asked waits true xs ys h k
works_both asked waits listened (Switched false true ∷ xs) ys h k = works_both asked waits listened xs ys h k
works_both asked waits listened (Switched true done ∷ xs) ys h k = works_both asked waits listened xs ys h k

pub takes_work : (asked : ℕ) (waits listened : Bool) (xs : List SocketCall) → OnlyTakeIn asked xs
    → Works asked waits listened xs
takes_work asked waits listened [] h = tt
takes_work asked waits listened (Came v m from octets ∷ xs) h = (h.0, h.1, takes_work asked true true xs h.2)
takes_work asked waits listened (NoneCame v m ∷ xs) h = (h.0, h.1, takes_work asked waits true xs h.2)
takes_work asked waits listened (Failed v m ∷ xs) h = (h.0, h.1, takes_work asked waits true xs h.2)
takes_work asked waits listened (Sent s ∷ xs) h = absurd h
takes_work asked waits listened (Unsent s ∷ xs) h = absurd h
takes_work asked waits listened (ClockRead t ∷ xs) h = absurd h
takes_work asked waits listened (Paused ∷ xs) h = absurd h
takes_work asked waits listened (Switched false false ∷ xs) h = takes_work asked waits true xs h
takes_work asked waits listened (Switched false true ∷ xs) h = takes_work asked waits listened xs h
takes_work asked waits listened (Switched true done ∷ xs) h = absurd h

pub sends_work : (asked : ℕ) (waits listened : Bool) (xs : List SocketCall) → OnlySends xs → Works asked waits listened xs
sends_work asked waits listened [] h = tt
sends_work asked waits listened (Came v m from octets ∷ xs) h = absurd h
sends_work asked waits listened (NoneCame v m ∷ xs) h = absurd h
sends_work asked waits listened (Failed v m ∷ xs) h = absurd h
sends_work asked waits listened (Sent s ∷ xs) h = sends_work asked waits listened xs h
sends_work asked waits listened (Unsent s ∷ xs) h = sends_work asked waits listened xs h
sends_work asked waits listened (ClockRead t ∷ xs) h = sends_work asked waits listened xs h
sends_work asked waits listened (Paused ∷ xs) h = absurd h
sends_work asked waits listened (Switched v done ∷ xs) h = absurd h

-- where nothing came, a pause may pass after a look
heard_pause : (asked : ℕ) (xs : List SocketCall) → OnlyTakeIn asked xs → arrivals_of xs ≡ []
    → Works asked false true (xs ++ Paused ∷ [])
heard_pause asked [] h none = (refl, refl, tt)
heard_pause asked (Came v m from octets ∷ xs) h none = absurd (let bad : (from, octets) ∷ arrivals_of xs ≡ [] = none in cc)
heard_pause asked (NoneCame v m ∷ xs) h none = (h.0, h.1, heard_pause asked xs h.2 none)
heard_pause asked (Failed v m ∷ xs) h none = (h.0, h.1, heard_pause asked xs h.2 none)
heard_pause asked (Sent s ∷ xs) h none = absurd h
heard_pause asked (Unsent s ∷ xs) h none = absurd h
heard_pause asked (ClockRead t ∷ xs) h none = absurd h
heard_pause asked (Paused ∷ xs) h none = absurd h
heard_pause asked (Switched false false ∷ xs) h none = heard_pause asked xs h none
heard_pause asked (Switched false true ∷ xs) h none = heard_pause asked xs h none
heard_pause asked (Switched true done ∷ xs) h none = absurd h

listened_pause : (asked : ℕ) (xs : List SocketCall) → OnlyTakeIn asked xs → Listens xs → arrivals_of xs ≡ []
    → Works asked false false (xs ++ Paused ∷ [])
listened_pause asked [] h l none = absurd l
listened_pause asked (Came v m from octets ∷ xs) h l none = absurd (let bad : (from, octets) ∷ arrivals_of xs ≡ [] = none in cc)
listened_pause asked (NoneCame v m ∷ xs) h l none = (h.0, h.1, heard_pause asked xs h.2 none)
listened_pause asked (Failed v m ∷ xs) h l none = (h.0, h.1, heard_pause asked xs h.2 none)
listened_pause asked (Sent s ∷ xs) h l none = absurd h
listened_pause asked (Unsent s ∷ xs) h l none = absurd h
listened_pause asked (ClockRead t ∷ xs) h l none = absurd h
listened_pause asked (Paused ∷ xs) h l none = absurd h
listened_pause asked (Switched false false ∷ xs) h l none = heard_pause asked xs h none
listened_pause asked (Switched false true ∷ xs) h l none = listened_pause asked xs h l none
listened_pause asked (Switched true done ∷ xs) h l none = absurd h

looked_pause : (asked : ℕ) (listened : Bool) (xs : List SocketCall) → OnlyTakeIn asked xs → Listens xs → arrivals_of xs ≡ []
    → Works asked false listened (xs ++ Paused ∷ [])
looked_pause asked true xs h l none = heard_pause asked xs h none
looked_pause asked false xs h l none = listened_pause asked xs h l none

pub works_pause : (asked : ℕ) (listened : Bool) (xs ys : List SocketCall) → Works asked false listened xs → arrivals_of xs ≡ []
    → OnlyTakeIn asked ys → Listens ys → arrivals_of ys ≡ [] → Works asked false listened ((xs ++ ys) ++ Paused ∷ [])
works_pause asked listened [] ys h none k l n = looked_pause asked listened ys k l n
works_pause asked listened (Came v m from octets ∷ xs) ys h none k l n = absurd (let bad : (from, octets) ∷ arrivals_of xs ≡ [] = none in cc)
works_pause asked listened (NoneCame v m ∷ xs) ys h none k l n = (h.0, h.1, works_pause asked true xs ys h.2 none k l n)
works_pause asked listened (Failed v m ∷ xs) ys h none k l n = (h.0, h.1, works_pause asked true xs ys h.2 none k l n)
works_pause asked listened (Sent s ∷ xs) ys h none k l n = works_pause asked listened xs ys h none k l n
works_pause asked listened (Unsent s ∷ xs) ys h none k l n = works_pause asked listened xs ys h none k l n
works_pause asked listened (ClockRead t ∷ xs) ys h none k l n = works_pause asked listened xs ys h none k l n
works_pause asked listened (Paused ∷ xs) ys h none k l n = (h.0, h.1, works_pause asked false xs ys h.2 none k l n)
works_pause asked listened (Switched false false ∷ xs) ys h none k l n = works_pause asked true xs ys h none k l n
works_pause asked listened (Switched false true ∷ xs) ys h none k l n = works_pause asked listened xs ys h none k l n
works_pause asked listened (Switched true done ∷ xs) ys h none k l n = works_pause asked listened xs ys h none k l n

pub listens_before : (xs ys : List SocketCall) → Listens xs → Listens (xs ++ ys)
listens_before [] ys h = absurd h
listens_before (Came v m from octets ∷ xs) ys h = tt
listens_before (NoneCame v m ∷ xs) ys h = tt
listens_before (Failed v m ∷ xs) ys h = tt
listens_before (Sent s ∷ xs) ys h = listens_before xs ys h
listens_before (Unsent s ∷ xs) ys h = listens_before xs ys h
listens_before (ClockRead t ∷ xs) ys h = listens_before xs ys h
listens_before (Paused ∷ xs) ys h = listens_before xs ys h
listens_before (Switched false false ∷ xs) ys h = tt
listens_before (Switched false true ∷ xs) ys h = listens_before xs ys h
listens_before (Switched true done ∷ xs) ys h = listens_before xs ys h

pub listens_after : (xs ys : List SocketCall) → Listens ys → Listens (xs ++ ys)
listens_after [] ys h = h
listens_after (Came v m from octets ∷ xs) ys h = tt
listens_after (NoneCame v m ∷ xs) ys h = tt
listens_after (Failed v m ∷ xs) ys h = tt
listens_after (Sent s ∷ xs) ys h = listens_after xs ys h
listens_after (Unsent s ∷ xs) ys h = listens_after xs ys h
listens_after (ClockRead t ∷ xs) ys h = listens_after xs ys h
listens_after (Paused ∷ xs) ys h = listens_after xs ys h
listens_after (Switched false false ∷ xs) ys h = tt
listens_after (Switched false true ∷ xs) ys h = listens_after xs ys h
listens_after (Switched true done ∷ xs) ys h = listens_after xs ys h

-- nothing comes without a receive
pub listens_or_none : (xs : List SocketCall) → Listens xs ⊎ (arrivals_of xs ≡ [])
listens_or_none [] = inr refl
listens_or_none (Came v m from octets ∷ xs) = inl tt
listens_or_none (NoneCame v m ∷ xs) = inl tt
listens_or_none (Failed v m ∷ xs) = inl tt
listens_or_none (Sent s ∷ xs) = listens_or_none xs
listens_or_none (Unsent s ∷ xs) = listens_or_none xs
listens_or_none (ClockRead t ∷ xs) = listens_or_none xs
listens_or_none (Paused ∷ xs) = listens_or_none xs
listens_or_none (Switched false false ∷ xs) = inl tt
listens_or_none (Switched false true ∷ xs) = listens_or_none xs
listens_or_none (Switched true done ∷ xs) = listens_or_none xs

first_listens : (asked : ℕ) (mode : Bool) (xs : List SocketCall) → ReceivesFirst asked mode xs → Listens xs
first_listens asked mode [] h = absurd h
first_listens asked mode (Came v m from octets ∷ xs) h = tt
first_listens asked mode (NoneCame v m ∷ xs) h = tt
first_listens asked mode (Failed v m ∷ xs) h = tt
first_listens asked mode (Sent s ∷ xs) h = absurd h
first_listens asked mode (Unsent s ∷ xs) h = absurd h
first_listens asked mode (ClockRead t ∷ xs) h = absurd h
first_listens asked mode (Paused ∷ xs) h = absurd h
first_listens asked mode (Switched v done ∷ xs) h = absurd h

pub once_listens : (asked : ℕ) (xs : List SocketCall) → WaitsOnce asked xs → Listens xs
once_listens asked [] h = absurd h
once_listens asked (Came v m from octets ∷ xs) h = tt
once_listens asked (NoneCame v m ∷ xs) h = tt
once_listens asked (Failed v m ∷ xs) h = tt
once_listens asked (Sent s ∷ xs) h = absurd h
once_listens asked (Unsent s ∷ xs) h = absurd h
once_listens asked (ClockRead t ∷ xs) h = absurd h
once_listens asked (Paused ∷ xs) h = absurd h
once_listens asked (Switched false done ∷ xs) h = absurd (let bad : false ≡ true = h.0 in cc)
once_listens asked (Switched true done ∷ xs) h = first_listens asked done xs h.1
