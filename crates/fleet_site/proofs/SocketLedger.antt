-- Which datagrams may still be replied to, call by call of a socket.
-- Serves the laws `own_replies`, `questions_answered`.
use Rattle.std.proofs.Common.{◌≡◌, ◌⊎◌, inl, inr, ℕ, suc, Bool, true, false, cond, min, List, [], ◌∷◌, ◌++◌, append_assoc, append-nil, length, take, Option, Some, None, Result, Ok, Err, refl, sym, ap, ◌∙◌, subst, arith, ltb-true}
use Rattle.std.specs.List.{AllByRecursion}
use Rattle.std.proofs.lemmas.Option.{same_Some}
use Rattle.fleet_wire.specs.declared.bounds.TheConstants.{LONGEST_MESSAGE}
use Rattle.fleet_pending.specs.declared.addr.Addr.{Addr}
use Rattle.fleet_site.specs.ConfigData.{ConfigData}
use Rattle.fleet_site.specs.PacketData.{PacketData}
use Rattle.fleet_site.specs.declared.port.PortFault.{PortFault}
use Rattle.fleet_site.specs.server.PortRecord.{PortCall, Received, NoDatagram, Fault, PacketSent, PacketLost, receive_of, send_of, Fills}
use Rattle.fleet_site.specs.server.Sending.{IsSend}
use Rattle.fleet_site.specs.server.Turn.{ROOM}
use Rattle.fleet_site.specs.server.Replies.{IsClient, RepliesTo, RepliesOnce}
use Rattle.fleet_site.specs.socket.SocketRecord.{SocketCall, Came, NoneCame, Failed, Sent, Unsent, ClockRead, Paused, Switched, departure_of}
use Rattle.fleet_site.specs.socket.Waiting.{Datagram, Arrived, with_one, without_one, Takes, is_long, is_frame, arrivals_of, departures_of, TookOut}
use Rattle.fleet_site.specs.socket.Bursts.{BurstData, arrived_of, turn_begun, Worked, HandsNextOn, Waits, Passes}
use Rattle.fleet_site.specs.socket.Flow.{PortStep, port_calls, socket_calls, Receiving, Sending, GoesOn, FlowsOn, Flows}
use Rattle.fleet_site.specs.socket.Clients.{as_port_calls}
use Rattle.fleet_site.proofs.Ledger.{Debt, debt, Pays, joins, takes_away, stays, PaysAll, Within, within_same, within_moved, within_less, PaysOver, over_within, sent_same, no_send, replies_of}
use Rattle.fleet_site.proofs.Working.{none_or, nothing_handed}

-- each receive asks for what a turn asks for
abbrev pub AsksRoom : List PortCall → Type 0
AsksRoom [] = Unit {0}
AsksRoom (Received asked from octets ∷ calls) = (asked ≡ ROOM) × AsksRoom calls
AsksRoom (NoDatagram asked ∷ calls) = AsksRoom calls
AsksRoom (Fault asked ∷ calls) = AsksRoom calls
AsksRoom (PacketSent s ∷ calls) = AsksRoom calls
AsksRoom (PacketLost s ∷ calls) = AsksRoom calls

-- Two lists, member by member.

abbrev Pairs : {A : Type 0} → (A → Debt → Type 0) → List A → List Debt → Type 0
Pairs R [] [] = Unit {0}
Pairs R [] (e ∷ es) = ⊥
Pairs R (x ∷ xs) [] = ⊥
Pairs R (x ∷ xs) (e ∷ es) = R x e × Pairs R xs es

pairs_split : {A : Type 0} (R : A → Debt → Type 0) (xs ys : List A) (es : List Debt) → Pairs R (xs ++ ys) es
    → (a : List Debt) × (b : List Debt) × (es ≡ a ++ b) × Pairs R xs a × Pairs R ys b
pairs_split R [] ys es h = ([], es, refl, tt, h)
pairs_split R (x ∷ xs) ys [] h = absurd h
pairs_split R (x ∷ xs) ys (e ∷ es) h =
    let r = pairs_split R xs ys es h.1 in
    (e ∷ r.0, r.1, ap (λ (ds : List Debt). e ∷ ds) r.2, (h.0, r.3), r.4)

pairs_both : {A : Type 0} (R : A → Debt → Type 0) (xs ys : List A) (a b : List Debt) → Pairs R xs a
    → Pairs R ys b → Pairs R (xs ++ ys) (a ++ b)
pairs_both R [] ys [] b h k = k
pairs_both R [] ys (e ∷ a) b h k = absurd h
pairs_both R (x ∷ xs) ys [] b h k = absurd h
pairs_both R (x ∷ xs) ys (e ∷ a) b h k = (h.0, pairs_both R xs ys a b h.1 k)

pairs_middle : {A : Type 0} (R : A → Debt → Type 0) (xs ys : List A) (y : A) (es : List Debt)
    → Pairs R (xs ++ y ∷ ys) es
    → (a : List Debt) × (e : Debt) × (b : List Debt) × (es ≡ a ++ e ∷ b) × Pairs R xs a × R y e × Pairs R ys b
pairs_middle R [] ys y [] h = absurd h
pairs_middle R [] ys y (e ∷ es) h = ([], e, es, refl, tt, h.0, h.1)
pairs_middle R (x ∷ xs) ys y [] h = absurd h
pairs_middle R (x ∷ xs) ys y (e ∷ es) h =
    let r = pairs_middle R xs ys y es h.1 in
    (e ∷ r.0, r.1, r.2, ap (λ (ds : List Debt). e ∷ ds) r.3, (h.0, r.4), r.5, r.6)

-- What waits in a port, and may be replied to.

-- the same datagram, maybe in another place
abbrev IsSame : Debt → Debt → Type 0
IsSame d e = (d.from ≡ e.from) × (d.octets ≡ e.octets)

-- the datagram, cut to what a turn asks for
abbrev IsCut : Datagram → Debt → Type 0
IsCut d e = (d.0 ≡ e.from) × (take ROOM d.1 ≡ e.octets)

abbrev NoneGoes : ConfigData → List Datagram → Type 0
NoneGoes c ds = AllByRecursion (λ (d : Datagram). ¬ IsClient c d.0) ds

-- What may be replied to by a socket: what may be by its port, and what waits in that to be handed on.
-- What waits to be sent goes to no client.
record Bears (c : ConfigData) (ds : List Debt) (a : Arrived) (leaving : List Datagram) (es ms fs : List Debt)
    : Type 0 where
  held : Pairs IsSame ds es
  messages : Pairs IsCut a.messages ms
  frames : Pairs IsCut a.frames fs
  to_none : NoneGoes c leaving

-- from there on these calls of the socket can be paid
abbrev Carries : ConfigData → List Debt → Arrived → List Datagram → List SocketCall → Type 0
Carries c ds a leaving calls = (k : ℕ) (es ms fs : List Debt) → Bears c ds a leaving es ms fs
    → PaysOver c k (as_port_calls calls) (es ++ (ms ++ fs))

abbrev CarriesOn : ConfigData → List Debt → BurstData → List SocketCall → Type 0
CarriesOn c ds p calls = Carries c ds (arrived_of p) p.leaving calls

-- Calls of a socket.

-- a datagram came, and waits
came_by_kind : (c : ConfigData) (ds : List Debt) (from : Addr) (octets : List ℕ) (a : Arrived)
    (leaving : List Datagram) (rest : List SocketCall) (waits : Bool) (asked : ℕ) (kind : Bool)
    → Carries c ds (record {
      messages = a.messages ++ cond kind [] ((from, octets) ∷ []);
      frames = a.frames ++ cond kind ((from, octets) ∷ []) [];
      dropped = a.dropped;
    }) leaving rest
    → Carries c ds a leaving (Came waits asked from octets ∷ rest)
came_by_kind c ds from octets a leaving rest waits asked true next k es ms fs w =
    let e = debt k from (take ROOM octets) in (
      es ++ (ms ++ fs),
      es ++ ((ms ++ []) ++ (fs ++ e ∷ [])),
      within_same (es ++ (ms ++ fs)),
      joins ROOM from (take ROOM octets) (es ++ (ms ++ fs)) [] refl (sym (append-nil (es ++ (ms ++ fs))))
          (simp (append_assoc, append-nil)),
      next (suc k) es (ms ++ []) (fs ++ e ∷ []) (record {
        held = w.held;
        messages = pairs_both IsCut a.messages [] ms [] w.messages tt;
        frames = pairs_both IsCut a.frames ((from, octets) ∷ []) fs (e ∷ []) w.frames ((refl, refl), tt);
        to_none = w.to_none;
      }),
    )
came_by_kind c ds from octets a leaving rest waits asked false next k es ms fs w =
    let e = debt k from (take ROOM octets) in (
      es ++ (ms ++ fs),
      es ++ ((ms ++ e ∷ []) ++ (fs ++ [])),
      within_same (es ++ (ms ++ fs)),
      joins ROOM from (take ROOM octets) (es ++ ms) fs refl (sym (append_assoc es ms fs))
          (simp (append_assoc, append-nil)),
      next (suc k) es (ms ++ e ∷ []) (fs ++ []) (record {
        held = w.held;
        messages = pairs_both IsCut a.messages ((from, octets) ∷ []) ms (e ∷ []) w.messages ((refl, refl), tt);
        frames = pairs_both IsCut a.frames [] fs [] w.frames tt;
        to_none = w.to_none;
      }),
    )

-- a datagram came, and was dropped
came_dropped : (c : ConfigData) (ds : List Debt) (peers : List Addr) (from : Addr) (octets : List ℕ) (a : Arrived)
    (leaving : List Datagram) (rest : List SocketCall) (waits : Bool) (asked : ℕ)
    → Carries c ds (without_one peers (from, octets) a) leaving rest → Carries c ds a leaving (Came waits asked from octets ∷ rest)
came_dropped c ds peers from octets a leaving rest waits asked next k es ms fs w = (
  es ++ (ms ++ fs),
  es ++ (ms ++ fs),
  within_same (es ++ (ms ++ fs)),
  stays
      (λ p i. absurd (no_send (Received ROOM from (take ROOM octets)) ROOM from (take ROOM octets) p refl i))
      refl,
  next (suc k) es ms fs (record {
    held = w.held;
    messages = w.messages;
    frames = w.frames;
    to_none = w.to_none;
  }),
)

-- the first that waited to be sent was handed to the system, in this call
left_first : (c : ConfigData) (ds : List Debt) (a : Arrived) (s : PacketData) (call : PortCall)
    (leaving : List Datagram) (rest : List SocketCall) → IsSend s call → Carries c ds a leaving rest
    → (k : ℕ) (es ms fs : List Debt) → Bears c ds a ((s.to, s.octets) ∷ leaving) es ms fs
    → PaysOver c k (call ∷ as_port_calls rest) (es ++ (ms ++ fs))
left_first c ds a s call leaving rest sent next k es ms fs w = (
  es ++ (ms ++ fs),
  es ++ (ms ++ fs),
  within_same (es ++ (ms ++ fs)),
  stays (λ p i. subst (λ (x : PacketData). ¬ IsClient c x.to) (sent_same call s p sent i) w.to_none.0) refl,
  next (suc k) es ms fs (record {
    held = w.held;
    messages = w.messages;
    frames = w.frames;
    to_none = w.to_none.1;
  }),
)

taken_over : (c : ConfigData) (ds : List Debt) (peers : List Addr) (calls rest : List SocketCall)
    (a b : Arrived) (leaving left : List Datagram) → Takes peers (arrivals_of calls) a b
    → leaving ≡ departures_of calls ++ left → Carries c ds b left rest
    → Carries c ds a leaving (calls ++ rest)
taken_over c ds peers [] rest a b leaving left t e next =
    subst (λ (x : Arrived). Carries c ds x leaving rest) t
    (subst (λ (x : List Datagram). Carries c ds b x rest) (sym e) next)
taken_over c ds peers (Came w n from octets ∷ calls) rest a b leaving left (inl t) e next =
    came_by_kind c ds from octets a leaving (calls ++ rest) w n (is_frame peers (from, octets))
    (taken_over c ds peers calls rest (with_one peers (from, octets) a) b leaving left t e next)
taken_over c ds peers (Came w n from octets ∷ calls) rest a b leaving left (inr t) e next =
    came_dropped c ds peers from octets a leaving (calls ++ rest) w n
    (taken_over c ds peers calls rest (without_one peers (from, octets) a) b leaving left t.1 e next)
taken_over c ds peers (NoneCame w n ∷ calls) rest a b leaving left t e next =
    taken_over c ds peers calls rest a b leaving left t e next
taken_over c ds peers (Failed w n ∷ calls) rest a b leaving left t e next =
    taken_over c ds peers calls rest a b leaving left t e next
taken_over c ds peers (Sent s ∷ calls) rest a b leaving left t e next =
    subst (λ (x : List Datagram). Carries c ds a x (Sent s ∷ (calls ++ rest))) (sym e)
    (left_first c ds a s (PacketSent s) (departures_of calls ++ left) (calls ++ rest) (inl refl)
    (taken_over c ds peers calls rest a b (departures_of calls ++ left) left t refl next))
taken_over c ds peers (Unsent s ∷ calls) rest a b leaving left t e next =
    subst (λ (x : List Datagram). Carries c ds a x (Unsent s ∷ (calls ++ rest))) (sym e)
    (left_first c ds a s (PacketLost s) (departures_of calls ++ left) (calls ++ rest) (inr refl)
    (taken_over c ds peers calls rest a b (departures_of calls ++ left) left t refl next))
taken_over c ds peers (ClockRead n ∷ calls) rest a b leaving left t e next =
    taken_over c ds peers calls rest a b leaving left t e next
taken_over c ds peers (Paused ∷ calls) rest a b leaving left t e next =
    taken_over c ds peers calls rest a b leaving left t e next
taken_over c ds peers (Switched w n ∷ calls) rest a b leaving left t e next =
    taken_over c ds peers calls rest a b leaving left t e next

worked_over : (c : ConfigData) (ds : List Debt) (p q : BurstData) (calls rest : List SocketCall)
    → Worked p q calls → CarriesOn c ds q rest → CarriesOn c ds p (calls ++ rest)
worked_over c ds p q calls rest w next =
    taken_over c ds p.peers calls rest (arrived_of p) (arrived_of q) p.leaving q.leaving w.takes w.leaving
    next

-- A receive of the port.

-- a receive that brought nothing changes nothing
quiet : (c : ConfigData) (k asked : ℕ) (call : PortCall) (ds ns : List Debt)
    → (call ≡ NoDatagram asked) ⊎ (call ≡ Fault asked) → Pays c k call ds ns → ns ≡ ds
quiet c k asked call ds ns (inl is) (joins room from octets before behind e o n) =
    absurd (let bad : NoDatagram asked ≡ Received room from octets = sym is ∙ e in cc)
quiet c k asked call ds ns (inr is) (joins room from octets before behind e o n) =
    absurd (let bad : Fault asked ≡ Received room from octets = sym is ∙ e in cc)
quiet c k asked call ds ns is (takes_away p d before behind sent o n f r) = absurd (never is sent)
  where
    never : (call ≡ NoDatagram asked) ⊎ (call ≡ Fault asked) → IsSend p call → ⊥
    never (inl e) (inl i) = cc
    never (inl e) (inr i) = cc
    never (inr e) (inl i) = cc
    never (inr e) (inr i) = cc
quiet c k asked call ds ns is (stays none same) = same

-- what was taken out of what waits
took_debt : (messages frames new_messages new_frames : List Datagram) (d : Datagram) (ms fs : List Debt)
    → TookOut messages frames (Some d) new_messages new_frames → Pairs IsCut messages ms
    → Pairs IsCut frames fs
    → (e : Debt) × (ns : List Debt) × (gs : List Debt) × (ms ++ fs ≡ e ∷ (ns ++ gs)) × IsCut d e
    × Pairs IsCut new_messages ns × Pairs IsCut new_frames gs
took_debt (x ∷ messages) frames new_messages new_frames d [] fs t h i = absurd h
took_debt (x ∷ messages) frames new_messages new_frames d (e ∷ ms) fs t h i = (
  e,
  ms,
  fs,
  refl,
  subst (λ (y : Datagram). IsCut y e) (sym (same_Some d x t.0)) h.0,
  subst (λ (ys : List Datagram). Pairs IsCut ys ms) (sym t.1) h.1,
  subst (λ (ys : List Datagram). Pairs IsCut ys fs) (sym t.2) i,
)
took_debt [] (x ∷ frames) new_messages new_frames d (e ∷ ms) fs t h i = absurd h
took_debt [] (x ∷ frames) new_messages new_frames d [] [] t h i = absurd i
took_debt [] (x ∷ frames) new_messages new_frames d [] (e ∷ fs) t h i = (
  e,
  [],
  fs,
  refl,
  subst (λ (y : Datagram). IsCut y e) (sym (same_Some d x t.0)) i.0,
  subst (λ (ys : List Datagram). Pairs IsCut ys []) (sym t.1) tt,
  subst (λ (ys : List Datagram). Pairs IsCut ys fs) (sym t.2) i.1,
)
took_debt [] [] new_messages new_frames d ms fs t h i = absurd (none_or d (sym t.0))

-- the next that waits was handed on: it may be replied to by the port from then on, or it is forgotten
handed_over : (c : ConfigData) (k : ℕ) (ds ns : List Debt) (d : Datagram) (a b : Arrived)
    (leaving : List Datagram) (rest : List SocketCall)
    → TookOut a.messages a.frames (Some d) b.messages b.frames
    → Pays c k (Received ROOM d.0 (take ROOM d.1)) ds ns → Carries c ns b leaving rest
    → Carries c ds a leaving rest
handed_over c k ds ns d a b leaving rest took (joins room from octets before behind e o n) next j es ms fs w =
    let t = took_debt a.messages a.frames b.messages b.frames d ms fs took w.messages w.frames in
    let s = pairs_split IsSame before behind es (subst (λ (x : List Debt). Pairs IsSame x es) o w.held) in
    over_within c j (as_port_calls rest) ((s.0 ++ t.0 ∷ s.1) ++ (t.1 ++ t.2)) (es ++ (ms ++ fs))
    (subst (λ (x : List Debt). Within ((s.0 ++ t.0 ∷ s.1) ++ (t.1 ++ t.2)) (es ++ x)) (sym t.3)
    (subst (λ (x : List Debt). Within ((s.0 ++ t.0 ∷ s.1) ++ (t.1 ++ t.2)) (x ++ t.0 ∷ (t.1 ++ t.2))) (sym s.2)
    (within_moved s.0 s.1 (t.1 ++ t.2) t.0)))
    (next j (s.0 ++ t.0 ∷ s.1) t.1 t.2 (record {
      held = subst (λ (x : List Debt). Pairs IsSame x (s.0 ++ t.0 ∷ s.1)) (sym n)
          (pairs_both IsSame before (debt k from octets ∷ behind) s.0 (t.0 ∷ s.1) s.3
          ((sender ∙ t.4.0, said ∙ t.4.1), s.4));
      messages = t.5;
      frames = t.6;
      to_none = w.to_none;
    }))
  where
    sender : from ≡ d.0
    sender = cc

    said : octets ≡ take ROOM d.1
    said = cc
handed_over c k ds ns d a b leaving rest took (takes_away p x before behind sent o n f r) next j es ms fs w =
    absurd (no_send (Received ROOM d.0 (take ROOM d.1)) ROOM d.0 (take ROOM d.1) p refl sent)
handed_over c k ds ns d a b leaving rest took (stays none same) next j es ms fs w =
    let t = took_debt a.messages a.frames b.messages b.frames d ms fs took w.messages w.frames in
    over_within c j (as_port_calls rest) (es ++ (t.1 ++ t.2)) (es ++ (ms ++ fs))
    (subst (λ (x : List Debt). Within (es ++ (t.1 ++ t.2)) (es ++ x)) (sym t.3)
    (within_less es (t.1 ++ t.2) t.0))
    (next j es t.1 t.2 (record {
      held = subst (λ (x : List Debt). Pairs IsSame x es) (sym same) w.held;
      messages = t.5;
      frames = t.6;
      to_none = w.to_none;
    }))

-- what is handed on is cut to what was asked for
pub handed_is : (asked : ℕ) (g : Addr × ℕ) (d : Datagram) (buffer : List ℕ) → Fills asked d (Some g) buffer
    → Received asked g.0 (take g.1 buffer) ≡ Received asked d.0 (take asked d.1)
handed_is asked g d buffer fills =
    ap (λ (x : Addr × ℕ). Received asked x.0 (take x.1 buffer))
    (same_Some g (d.0, min (length d.1) asked) fills.0)
    ∙ ap (λ (x : List ℕ). Received asked d.0 x) fills.1

quiet_over : (c : ConfigData) (k asked : ℕ) (call : PortCall) (ds ns : List Debt) (p q : BurstData)
    (rest : List SocketCall) → (call ≡ NoDatagram asked) ⊎ (call ≡ Fault asked) → q ≡ p → Pays c k call ds ns
    → CarriesOn c ns q rest → CarriesOn c ds p rest
quiet_over c k asked call ds ns p q rest is same pays next =
    subst (λ (x : BurstData). CarriesOn c ds x rest) same
    (subst (λ (x : List Debt). CarriesOn c x q rest) (quiet c k asked call ds ns is pays) next)

took_over : (c : ConfigData) (k asked : ℕ) (call : PortCall) (ds ns : List Debt) (p q : BurstData)
    (r : Result (Option (Addr × ℕ)) PortFault) (buffer : List ℕ) (rest : List SocketCall)
    → AsksRoom (call ∷ []) → call ≡ receive_of asked r buffer → Pays c k call ds ns
    → HandsNextOn asked p r buffer q → CarriesOn c ns q rest → CarriesOn c ds p rest
took_over c k asked call ds ns p q (Err e) buffer rest room is pays h next =
    quiet_over c k asked call ds ns p q rest (inr is) h pays next
took_over c k asked call ds ns p q (Ok None) buffer rest room is pays h next =
    quiet_over c k asked call ds ns p q rest (inl is)
    (nothing_handed asked p q buffer (h.0, h.1, h.2) h.3) pays next
took_over c k asked call ds ns p q (Ok (Some g)) buffer rest room is pays (None, took, hands, same) next =
    absurd (none_or g (sym hands))
took_over c k asked call ds ns p q (Ok (Some g)) buffer rest room is pays (Some d, took, fills, same) next =
    let e : call ≡ Received asked d.0 (take asked d.1) = is ∙ handed_is asked g d buffer fills in
    let n : asked ≡ ROOM = (subst (λ (x : PortCall). AsksRoom (x ∷ [])) e room).0 in
    let f : call ≡ Received ROOM d.0 (take ROOM d.1) = e ∙ ap (λ (x : ℕ). Received x d.0 (take x d.1)) n in
    handed_over c k ds ns d (arrived_of p) (arrived_of q) p.leaving rest took
    (subst (λ (x : PortCall). Pays c k x ds ns) f pays)
    (subst (λ (x : List Datagram). Carries c ns (arrived_of q) x rest)
    (ap (λ (x : BurstData). x.leaving) same) next)

receive_over : (c : ConfigData) (k asked : ℕ) (call : PortCall) (calls rest : List SocketCall)
    (p q : BurstData) (ds ns : List Debt) → AsksRoom (call ∷ []) → Receiving asked call calls p q
    → Pays c k call ds ns → CarriesOn c ns q rest → CarriesOn c ds p (calls ++ rest)
receive_over c k asked call calls rest p q ds ns room r pays next =
    subst (λ (x : List SocketCall). CarriesOn c ds p (x ++ rest)) (sym r.made)
    (worked_over c ds (turn_begun p) r.receives.mid r.receives.calls rest r.receives.worked
    (took_over c k asked call ds ns r.receives.mid q r.result r.buffer rest room r.noted pays
    r.receives.hands_on next))

-- A send of the port.

pub departs : (r : Result (Unit {0}) PortFault) (s : PacketData) (rest : List SocketCall)
    → as_port_calls (departure_of r s ∷ rest) ≡ send_of r s ∷ as_port_calls rest
departs (Ok u) s rest = refl
departs (Err e) s rest = refl

pub is_send : (r : Result (Unit {0}) PortFault) (s : PacketData) → IsSend s (send_of r s)
is_send (Ok u) s = inl refl
is_send (Err e) s = inr refl

-- what pays the port pays the socket
paid_over : (c : ConfigData) (k : ℕ) (s : PacketData) (call : PortCall) (ds ns : List Debt) (a : Arrived)
    (leaving : List Datagram) (rest : List SocketCall) → IsSend s call → Pays c k call ds ns
    → Carries c ns a leaving rest → (j : ℕ) (es ms fs : List Debt) → Bears c ds a leaving es ms fs
    → PaysOver c j (call ∷ as_port_calls rest) (es ++ (ms ++ fs))
paid_over c k s call ds ns a leaving rest sent (joins room from octets before behind e o n) next j es ms fs w =
    absurd (no_send call room from octets s e sent)
paid_over c k s call ds ns a leaving rest sent (takes_away p d before behind i o n f r) next j es ms fs w =
    let t = pairs_middle IsSame before behind d es (subst (λ (x : List Debt). Pairs IsSame x es) o w.held) in (
      es ++ (ms ++ fs),
      (t.0 ++ t.2) ++ (ms ++ fs),
      within_same (es ++ (ms ++ fs)),
      takes_away p t.1 t.0 (t.2 ++ (ms ++ fs)) i
          (ap (λ (x : List Debt). x ++ (ms ++ fs)) t.3 ∙ append_assoc t.0 (t.1 ∷ t.2) (ms ++ fs))
          (append_assoc t.0 t.2 (ms ++ fs)) (sym t.5.0 ∙ f)
          (subst (λ (x : List ℕ). RepliesTo x p.octets) t.5.1 r),
      next (suc j) (t.0 ++ t.2) ms fs (record {
        held = subst (λ (x : List Debt). Pairs IsSame x (t.0 ++ t.2)) (sym n)
            (pairs_both IsSame before behind t.0 t.2 t.4 t.6);
        messages = w.messages;
        frames = w.frames;
        to_none = w.to_none;
      }),
    )
paid_over c k s call ds ns a leaving rest sent (stays none same) next j es ms fs w = (
  es ++ (ms ++ fs),
  es ++ (ms ++ fs),
  within_same (es ++ (ms ++ fs)),
  stays none refl,
  next (suc j) es ms fs (record {
    held = subst (λ (x : List Debt). Pairs IsSame x es) (sym same) w.held;
    messages = w.messages;
    frames = w.frames;
    to_none = w.to_none;
  }),
)

-- a packet was handed to the system in the call in which the port was given it
made_over : (c : ConfigData) (k : ℕ) (s : PacketData) (r : Result (Unit {0}) PortFault)
    (calls rest : List SocketCall) (ds ns : List Debt) (a : Arrived) (leaving : List Datagram)
    → calls ≡ departure_of r s ∷ [] → Pays c k (send_of r s) ds ns → Carries c ns a leaving rest
    → Carries c ds a leaving (calls ++ rest)
made_over c k s r calls rest ds ns a leaving made pays next j es ms fs w =
    subst (λ (x : List SocketCall). PaysOver c j (as_port_calls (x ++ rest)) (es ++ (ms ++ fs))) (sym made)
    (subst (λ (x : List PortCall). PaysOver c j x (es ++ (ms ++ fs))) (sym (departs r s rest))
    (paid_over c k s (send_of r s) ds ns a leaving rest (is_send r s) pays next j es ms fs w))

message_over : (c : ConfigData) (k : ℕ) (s : PacketData) (call : PortCall) (calls rest : List SocketCall)
    (p q : BurstData) (ds ns : List Debt) → is_long s.octets ≡ false → Sending s call calls p q
    → Pays c k call ds ns → CarriesOn c ns q rest → CarriesOn c ds p (calls ++ rest)
message_over c k s call calls rest p q ds ns short d pays next = go d.made
  where
    same : q ≡ record p { socket = q.socket; failed = q.failed }
    same = (d.sends.message short).1

    go : (calls ≡ departure_of d.result s ∷ []) ⊎ ((calls ≡ []) × (is_long s.octets ≡ true))
        → CarriesOn c ds p (calls ++ rest)
    go (inl made) =
        made_over c k s d.result calls rest ds ns (arrived_of p) p.leaving made
        (subst (λ (x : PortCall). Pays c k x ds ns) d.noted pays)
        (subst (λ (x : BurstData). CarriesOn c ns x rest) same next)
    go (inr made) = absurd (let bad : false ≡ true = sym short ∙ made.1 in cc)

-- what is longer than a message goes to no client
long_pays : (c : ConfigData) (k : ℕ) (s : PacketData) (call : PortCall) (ds ns : List Debt) → IsSend s call
    → is_long s.octets ≡ true → Pays c k call ds ns → (ns ≡ ds) × (¬ IsClient c s.to)
long_pays c k s call ds ns sent long (joins room from octets before behind e o n) =
    absurd (no_send call room from octets s e sent)
long_pays c k s call ds ns sent long (takes_away p d before behind i o n f r) =
    let e : length p.octets ≡ length s.octets =
    ap (λ (x : PacketData). length x.octets) (sent_same call p s i sent) in
    absurd (omega (arith, e, r.short, ltb-true LONGEST_MESSAGE (length s.octets) long))
long_pays c k s call ds ns sent long (stays none same) = (same, none s sent)

-- it joins what waits to be sent, or does not wait
pub longer_kept : (s : PacketData) (p : BurstData) (r : Result (Unit {0}) PortFault) (q : BurstData)
    → Waits s p r q ⊎ Passes s p r q
    → (arrived_of q ≡ arrived_of p)
    × ((q.leaving ≡ p.leaving) ⊎ (q.leaving ≡ p.leaving ++ (s.to, s.octets) ∷ []))
longer_kept s p (Ok u) q (inl h) = (ap arrived_of h.1, inr (ap (λ (x : BurstData). x.leaving) h.1))
longer_kept s p (Err e) q (inl h) = absurd h
longer_kept s p r q (inr h) = (ap arrived_of h.1, inl (ap (λ (x : BurstData). x.leaving) h.1))

none_more : (c : ConfigData) (ds : List Datagram) (d : Datagram) → NoneGoes c ds → ¬ IsClient c d.0
    → NoneGoes c (ds ++ d ∷ [])
none_more c [] d h k = (k, tt)
none_more c (x ∷ ds) d h k = (h.0, none_more c ds d h.1 k)

longer_over : (c : ConfigData) (k : ℕ) (s : PacketData) (call : PortCall) (calls rest : List SocketCall)
    (p q : BurstData) (ds ns : List Debt) → is_long s.octets ≡ true → IsSend s call → Sending s call calls p q
    → Pays c k call ds ns → CarriesOn c ns q rest → CarriesOn c ds p (calls ++ rest)
longer_over c k s call calls rest p q ds ns long sent d pays next = go d.made
  where
    kept : (arrived_of q ≡ arrived_of p)
        × ((q.leaving ≡ p.leaving) ⊎ (q.leaving ≡ p.leaving ++ (s.to, s.octets) ∷ []))
    kept = longer_kept s p d.result q (d.sends.longer long)

    both : (ns ≡ ds) × (¬ IsClient c s.to)
    both = long_pays c k s call ds ns sent long pays

    none : (q.leaving ≡ p.leaving) ⊎ (q.leaving ≡ p.leaving ++ (s.to, s.octets) ∷ []) → NoneGoes c p.leaving
        → NoneGoes c q.leaving
    none (inl same) h = subst (NoneGoes c) (sym same) h
    none (inr more) h = subst (NoneGoes c) (sym more) (none_more c p.leaving (s.to, s.octets) h both.1)

    stay : CarriesOn c ds p rest
    stay j es ms fs w = next j es ms fs (record {
      held = subst (λ (x : List Debt). Pairs IsSame x es) (sym both.0) w.held;
      messages = subst (λ (x : Arrived). Pairs IsCut x.messages ms) (sym kept.0) w.messages;
      frames = subst (λ (x : Arrived). Pairs IsCut x.frames fs) (sym kept.0) w.frames;
      to_none = none kept.1 w.to_none;
    })

    go : (calls ≡ departure_of d.result s ∷ []) ⊎ ((calls ≡ []) × (is_long s.octets ≡ true))
        → CarriesOn c ds p (calls ++ rest)
    go (inl made) =
        made_over c k s d.result calls rest ds ds (arrived_of p) p.leaving made
        (stays (λ x i. subst (λ (y : PacketData). ¬ IsClient c y.to)
        (sent_same (send_of d.result s) s x (is_send d.result s) i) both.1) refl) stay
    go (inr made) = subst (λ (x : List SocketCall). CarriesOn c ds p (x ++ rest)) (sym made.0) stay

send_over : (c : ConfigData) (k : ℕ) (s : PacketData) (call : PortCall) (calls rest : List SocketCall)
    (p q : BurstData) (ds ns : List Debt) (long : Bool) → is_long s.octets ≡ long → IsSend s call
    → Sending s call calls p q → Pays c k call ds ns → CarriesOn c ns q rest
    → CarriesOn c ds p (calls ++ rest)
send_over c k s call calls rest p q ds ns true e sent d pays next =
    longer_over c k s call calls rest p q ds ns e sent d pays next
send_over c k s call calls rest p q ds ns false e sent d pays next =
    message_over c k s call calls rest p q ds ns e d pays next

-- All calls.

steps_over : (c : ConfigData) (k : ℕ) (steps : List PortStep) (p q : BurstData) (ds left : List Debt)
    → AsksRoom (port_calls steps) → GoesOn steps p q → PaysAll c k (port_calls steps) ds left
    → CarriesOn c ds p (socket_calls steps)
steps_over c k [] p q ds left room g pays = λ j es ms fs w. tt
steps_over c k ((None, calls) ∷ steps) p q ds left room g pays =
    worked_over c ds p g.0 calls (socket_calls steps) g.1.worked
    (steps_over c k steps g.0 q ds left room g.2 pays)
steps_over c k ((Some (Received asked from octets), calls) ∷ steps) p q ds left room g pays =
    receive_over c k asked (Received asked from octets) calls (socket_calls steps) p g.0 ds pays.0
    (room.0, tt) g.1 pays.1
    (steps_over c (suc k) steps g.0 q pays.0 left room.1 g.2 pays.2)
steps_over c k ((Some (NoDatagram asked), calls) ∷ steps) p q ds left room g pays =
    receive_over c k asked (NoDatagram asked) calls (socket_calls steps) p g.0 ds pays.0 tt g.1 pays.1
    (steps_over c (suc k) steps g.0 q pays.0 left room g.2 pays.2)
steps_over c k ((Some (Fault asked), calls) ∷ steps) p q ds left room g pays =
    receive_over c k asked (Fault asked) calls (socket_calls steps) p g.0 ds pays.0 tt g.1 pays.1
    (steps_over c (suc k) steps g.0 q pays.0 left room g.2 pays.2)
steps_over c k ((Some (PacketSent s), calls) ∷ steps) p q ds left room g pays =
    send_over c k s (PacketSent s) calls (socket_calls steps) p g.0 ds pays.0 (is_long s.octets) refl
    (inl refl) g.1 pays.1
    (steps_over c (suc k) steps g.0 q pays.0 left room g.2 pays.2)
steps_over c k ((Some (PacketLost s), calls) ∷ steps) p q ds left room g pays =
    send_over c k s (PacketLost s) calls (socket_calls steps) p g.0 ds pays.0 (is_long s.octets) refl
    (inr refl) g.1 pays.1
    (steps_over c (suc k) steps g.0 q pays.0 left room g.2 pays.2)

-- what the record of a port pays, that of its socket pays
pub replies_over : (c : ConfigData) (calls : List SocketCall) (noted : List PortCall) (p : BurstData)
    (left : List Debt) → AsksRoom noted → Flows calls noted p → PaysAll c 0 noted [] left
    → RepliesOnce c (as_port_calls calls)
replies_over c calls noted p left room flows pays =
    subst (λ (x : List SocketCall). RepliesOnce c (as_port_calls x)) (sym f.by_socket)
    (replies_of c (as_port_calls (socket_calls f.steps))
    (steps_over c 0 f.steps f.first p [] left (subst AsksRoom f.by_port room) f.goes
    (subst (λ (x : List PortCall). PaysAll c 0 x [] left) f.by_port pays) 0 [] [] [] (record {
      held = tt;
      messages = subst (λ (x : List Datagram). Pairs IsCut x []) (sym f.begins.idle.messages) tt;
      frames = subst (λ (x : List Datagram). Pairs IsCut x []) (sym f.begins.idle.frames) tt;
      to_none = subst (NoneGoes c) (sym f.begins.idle.leaving) tt;
    })))
  where
    f : FlowsOn calls noted p
    f = flows.goes
