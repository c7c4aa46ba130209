-- What the records of a port and of its socket say together.
-- Serves `BurstPort::finish`, `BurstPort::new`, `BurstPort::recv`, `BurstPort::send`,
-- `serve_socket`, the laws `own_replies`, `questions_answered`.
use Rattle.std.proofs.Common.{◌≡◌, ℕ, Bool, true, false, cond, min, List, [], ◌∷◌, ◌++◌, length, take, Option, Some, None, Result, Ok, Err, refl, sym, ap, subst, ◌∙◌, append_assoc, IfSome, ◌⊎◌, inl, inr}
use Rattle.std.proofs.lemmas.List.{append-nil}
use Rattle.fleet_pending.specs.declared.addr.Addr.{Addr}
use Rattle.fleet_site.specs.PacketData.{PacketData}
use Rattle.fleet_site.specs.declared.port.PortFault.{PortFault}
use Rattle.fleet_site.specs.declared.queued.Drops.{Drops}
use Rattle.fleet_site.specs.server.PortRecord.{PortCall, Received, NoDatagram, Fault, PacketSent, PacketLost, NotesAll, receive_of, send_of}
use Rattle.fleet_site.specs.socket.SocketRecord.{SocketCall, Sent, Unsent, HasNoted, Called, departure_of, nanos_of}
use Rattle.fleet_site.specs.socket.Waiting.{Datagram, Arrived, with_one, without_one, no_drops, one_dropped, Takes, Sifts, is_long, is_frame, messages_of, frames_of, arrivals_of, at_most_one, TookOut, HandsOn}
use Rattle.fleet_site.specs.socket.Window.{whole_window}
use Rattle.std.specs.declared.time.Duration.{Duration}
use Rattle.fleet_site.specs.socket.Pace.{Burst, fresh}
use Rattle.fleet_site.specs.socket.Bursts.{BurstData, arrived_of, turn_begun, Worked, HasWorked, HandsNextOn, Receives, Waits, Passes, SendsOrKeeps, IsIdle}
use Rattle.fleet_site.specs.socket.Flow.{HandsOnAll, PortStep, port_calls, socket_calls, Finishing, StepsTo, GoesOn, FlowsIn, FlowsOn, Flows, FlowsIfNoted}
use Rattle.fleet_site.specs.SiteData.{SiteData}
use Rattle.fleet_site.specs.server.Served.{Served, RunInput}
use Rattle.fleet_site.specs.socket.Serving.{ServedOver, WholeRunIfNoted}
use Rattle.fleet_site.specs.declared.report.Report.{Report}
use Rattle.fleet_site.proofs.SocketCalls.{called_none, arrivals_of-append, messages_of-append, frames_of-append}
use Rattle.fleet_site.proofs.Working.{took_none}

-- Members of parts.

abbrev Each : (Datagram → Type 0) → List Datagram → Type 0
Each P [] = Unit {0}
Each P (d ∷ ds) = P d × Each P ds

each_at : (P : Datagram → Type 0) (xs ys : List Datagram) (d : Datagram) → Each P (xs ++ d ∷ ys) → P d
each_at P [] ys d h = h.0
each_at P (x ∷ xs) ys d h = each_at P xs ys d h.1

not_framed : (ps : List Addr) (d : Datagram) (rest : List Datagram) (b : Bool) → is_frame ps d ≡ b
    → Each (λ e. is_frame ps e ≡ false) rest → Each (λ e. is_frame ps e ≡ false) (cond b rest (d ∷ rest))
not_framed ps d rest true e h = h
not_framed ps d rest false e h = (e, h)

messages_are : (ps : List Addr) (ds : List Datagram) → Each (λ e. is_frame ps e ≡ false) (messages_of ps ds)
messages_are ps [] = tt
messages_are ps (d ∷ ds) = not_framed ps d (messages_of ps ds) (is_frame ps d) refl (messages_are ps ds)

framed : (ps : List Addr) (d : Datagram) (rest : List Datagram) (b : Bool) → is_frame ps d ≡ b
    → Each (λ e. is_frame ps e ≡ true) rest → Each (λ e. is_frame ps e ≡ true) (cond b (d ∷ rest) rest)
framed ps d rest true e h = (e, h)
framed ps d rest false e h = h

frames_are : (ps : List Addr) (ds : List Datagram) → Each (λ e. is_frame ps e ≡ true) (frames_of ps ds)
frames_are ps [] = tt
frames_are ps (d ∷ ds) = framed ps d (frames_of ps ds) (is_frame ps d) refl (frames_are ps ds)

-- what was taken out was handed on
took_all : (ps : List Addr) (all handed ms fs : List Datagram) (taken : Option Datagram) (ns gs : List Datagram)
    → messages_of ps all ≡ messages_of ps handed ++ ms → frames_of ps all ≡ frames_of ps handed ++ fs
    → TookOut ms fs taken ns gs
    → (messages_of ps all ≡ messages_of ps (handed ++ at_most_one taken) ++ ns)
    × (frames_of ps all ≡ frames_of ps (handed ++ at_most_one taken) ++ gs)
took_all ps all handed (d ∷ ms) fs taken ns gs em ef t =
    let kind : is_frame ps d ≡ false = each_at (λ e. is_frame ps e ≡ false) (messages_of ps handed) ms d
    (subst (Each (λ e. is_frame ps e ≡ false)) em (messages_are ps all)) in
    rw (t.0, t.1, t.2) (
      em ∙ sym (append_assoc (messages_of ps handed) (d ∷ []) ms)
          ∙ ap (λ x. x ++ ms) (sym (messages_of-append ps handed (d ∷ [])
          ∙ ap (λ b. messages_of ps handed ++ cond b [] (d ∷ [])) kind)),
      ef ∙ ap (λ x. x ++ fs) (sym (frames_of-append ps handed (d ∷ [])
          ∙ ap (λ b. frames_of ps handed ++ cond b (d ∷ []) []) kind ∙ append-nil (frames_of ps handed))),
    )
took_all ps all handed [] (d ∷ fs) taken ns gs em ef t =
    let kind : is_frame ps d ≡ true = each_at (λ e. is_frame ps e ≡ true) (frames_of ps handed) fs d
    (subst (Each (λ e. is_frame ps e ≡ true)) ef (frames_are ps all)) in
    rw (t.0, t.1, t.2) (
      em ∙ ap (λ x. x ++ []) (sym (messages_of-append ps handed (d ∷ [])
          ∙ ap (λ b. messages_of ps handed ++ cond b [] (d ∷ [])) kind ∙ append-nil (messages_of ps handed))),
      ef ∙ sym (append_assoc (frames_of ps handed) (d ∷ []) fs)
          ∙ ap (λ x. x ++ fs) (sym (frames_of-append ps handed (d ∷ [])
          ∙ ap (λ b. frames_of ps handed ++ cond b (d ∷ []) []) kind)),
    )
took_all ps all handed [] [] taken ns gs em ef t =
    rw (t.0, t.1, t.2) (
      em ∙ ap (λ x. messages_of ps x ++ []) (sym (append-nil handed)),
      ef ∙ ap (λ x. frames_of ps x ++ []) (sym (append-nil handed)),
    )

hands_more : (ds : List Datagram) (ns : List PortCall) (d : Datagram) (asked : ℕ) (from : Addr) (octets : List ℕ)
    → from ≡ d.0 → octets ≡ take asked d.1 → HandsOnAll ds ns
    → HandsOnAll (ds ++ d ∷ []) (ns ++ Received asked from octets ∷ [])
hands_more ds [] d asked from octets ef eo h = (d, [], ap (λ x. x ++ d ∷ []) h, (ef, eo), refl)
hands_more ds (Received a f o ∷ ns) d asked from octets ef eo h =
    (h.0, h.1 ++ d ∷ [], ap (λ x. x ++ d ∷ []) h.2, h.3, hands_more h.1 ns d asked from octets ef eo h.4)
hands_more ds (NoDatagram a ∷ ns) d asked from octets ef eo h = hands_more ds ns d asked from octets ef eo h
hands_more ds (Fault a ∷ ns) d asked from octets ef eo h = hands_more ds ns d asked from octets ef eo h
hands_more ds (PacketSent s ∷ ns) d asked from octets ef eo h = hands_more ds ns d asked from octets ef eo h
hands_more ds (PacketLost s ∷ ns) d asked from octets ef eo h = hands_more ds ns d asked from octets ef eo h

hands_same : (ds : List Datagram) (ns : List PortCall) (c : PortCall)
    → ((es : List Datagram) → es ≡ [] → HandsOnAll es (c ∷ [])) → HandsOnAll ds ns → HandsOnAll ds (ns ++ c ∷ [])
hands_same ds [] c k h = k ds h
hands_same ds (Received a f o ∷ ns) c k h = (h.0, h.1, h.2, h.3, hands_same h.1 ns c k h.4)
hands_same ds (NoDatagram a ∷ ns) c k h = hands_same ds ns c k h
hands_same ds (Fault a ∷ ns) c k h = hands_same ds ns c k h
hands_same ds (PacketSent s ∷ ns) c k h = hands_same ds ns c k h
hands_same ds (PacketLost s ∷ ns) c k h = hands_same ds ns c k h

pub port_calls-append : (xs ys : List PortStep) → port_calls (xs ++ ys) ≡ port_calls xs ++ port_calls ys
port_calls-append [] ys = refl
port_calls-append ((None, calls) ∷ xs) ys = port_calls-append xs ys
port_calls-append ((Some call, calls) ∷ xs) ys = ap (λ zs. call ∷ zs) (port_calls-append xs ys)

pub socket_calls-append : (xs ys : List PortStep) → socket_calls (xs ++ ys) ≡ socket_calls xs ++ socket_calls ys
socket_calls-append [] ys = refl
socket_calls-append ((call, calls) ∷ xs) ys =
    ap (λ zs. calls ++ zs) (socket_calls-append xs ys)
    ∙ sym (append_assoc calls (socket_calls xs) (socket_calls ys))

goes_more : (xs : List PortStep) (x : PortStep) (a b c : BurstData) → GoesOn xs a b → StepsTo x b c
    → GoesOn (xs ++ x ∷ []) a c
goes_more [] x a b c h k = (c, subst (λ o. StepsTo x o c) h k, refl)
goes_more (y ∷ xs) x a b c h k = (h.0, h.1, goes_more xs x h.0 b c h.2 k)

none_or : {X : Type 0} (x : X) → None ≡ Some x → ⊥
none_or x e = absurd (let bad : None ≡ Some x = e in cc)

-- What comes in.

sifts_both : (ps : List Addr) (xs ys ks bs : List Datagram) (n m k : Drops) → Sifts ps xs ks n m → Sifts ps ys bs m k
    → Sifts ps (xs ++ ys) (ks ++ bs) n k
sifts_both ps [] ys ks bs n m k h g =
    subst (λ x. Sifts ps ys (x ++ bs) n k) (sym h.0) (subst (λ x. Sifts ps ys bs x k) h.1 g)
sifts_both ps (x ∷ xs) ys ks bs n m k (inl h) g =
    inl (h.0 ++ bs, ap (λ z. z ++ bs) h.1, sifts_both ps xs ys h.0 bs n m k h.2 g)
sifts_both ps (x ∷ xs) ys ks bs n m k (inr h) g =
    inr (sifts_both ps xs ys ks bs (one_dropped (is_frame ps x) n) m k h g)

sifts_moved : (cs : List SocketCall) (ks : List Datagram) (p q : BurstData) → q.peers ≡ p.peers → q.dropped ≡ p.dropped
    → Sifts p.peers (arrivals_of cs) ks no_drops p.dropped → Sifts q.peers (arrivals_of cs) ks no_drops q.dropped
sifts_moved cs ks p q peers drops h =
    subst (λ ps. Sifts ps (arrivals_of cs) ks no_drops q.dropped) (sym peers)
    (subst (λ n. Sifts p.peers (arrivals_of cs) ks no_drops n) (sym drops) h)

-- of what came some was kept, and waits after what waited; all else was counted
record Kept (ps : List Addr) (ds : List Datagram) (a b : Arrived) : Type 0 where
  pub kept : List Datagram
  pub sifts : Sifts ps ds kept a.dropped b.dropped
  pub messages : b.messages ≡ a.messages ++ messages_of ps kept
  pub frames : b.frames ≡ a.frames ++ frames_of ps kept

taken_kept : (ps : List Addr) (ds : List Datagram) (a b : Arrived) → Takes ps ds a b → Kept ps ds a b
taken_kept ps [] a b h = record {
  kept = [];
  sifts = (refl, ap (λ (x : Arrived). x.dropped) h);
  messages = ap (λ (x : Arrived). x.messages) h ∙ sym (append-nil a.messages);
  frames = ap (λ (x : Arrived). x.frames) h ∙ sym (append-nil a.frames);
}
taken_kept ps (d ∷ ds) a b (inl h) =
    let r = taken_kept ps ds (with_one ps d a) b h in
    record {
      kept = d ∷ r.kept;
      sifts = inl (r.kept, refl, r.sifts);
      messages = r.messages ∙ append_assoc a.messages (messages_of ps (d ∷ [])) (messages_of ps r.kept)
          ∙ ap (λ x. a.messages ++ x) (sym (messages_of-append ps (d ∷ []) r.kept));
      frames = r.frames ∙ append_assoc a.frames (frames_of ps (d ∷ [])) (frames_of ps r.kept)
          ∙ ap (λ x. a.frames ++ x) (sym (frames_of-append ps (d ∷ []) r.kept));
    }
taken_kept ps (d ∷ ds) a b (inr h) =
    let r = taken_kept ps ds (without_one ps d a) b h.1 in
    record { kept = r.kept; sifts = inr r.sifts; messages = r.messages; frames = r.frames }

in_worked : (cs : List SocketCall) (ns : List PortCall) (p m : BurstData) (calls : List SocketCall)
    → Worked p m calls → FlowsIn cs ns p → FlowsIn (cs ++ calls) ns m
in_worked cs ns p m calls w f =
    let r = taken_kept p.peers (arrivals_of calls) (arrived_of p) (arrived_of m) w.takes in
    record {
      kept = f.kept ++ r.kept;
      handed = f.handed;
      sifts = subst (λ ps. Sifts ps (arrivals_of (cs ++ calls)) (f.kept ++ r.kept) no_drops m.dropped) (sym w.peers)
          (subst (λ ds. Sifts p.peers ds (f.kept ++ r.kept) no_drops m.dropped) (sym (arrivals_of-append cs calls))
          (sifts_both p.peers (arrivals_of cs) (arrivals_of calls) f.kept r.kept no_drops p.dropped m.dropped
          f.sifts r.sifts));
      hands_on = f.hands_on;
      messages = subst (λ ps. messages_of ps (f.kept ++ r.kept) ≡ messages_of ps f.handed ++ m.messages) (sym w.peers)
          (messages_of-append p.peers f.kept r.kept
          ∙ ap (λ x. x ++ messages_of p.peers r.kept) f.messages
          ∙ append_assoc (messages_of p.peers f.handed) p.messages (messages_of p.peers r.kept)
          ∙ ap (λ x. messages_of p.peers f.handed ++ x) (sym r.messages));
      frames = subst (λ ps. frames_of ps (f.kept ++ r.kept) ≡ frames_of ps f.handed ++ m.frames) (sym w.peers)
          (frames_of-append p.peers f.kept r.kept
          ∙ ap (λ x. x ++ frames_of p.peers r.kept) f.frames
          ∙ append_assoc (frames_of p.peers f.handed) p.frames (frames_of p.peers r.kept)
          ∙ ap (λ x. frames_of p.peers f.handed ++ x) (sym r.frames));
    }

-- a call was noted that handed nothing on
in_noted : (cs : List SocketCall) (ns : List PortCall) (p : BurstData) (n : PortCall)
    → ((es : List Datagram) → es ≡ [] → HandsOnAll es (n ∷ [])) → FlowsIn cs ns p → FlowsIn cs (ns ++ n ∷ []) p
in_noted cs ns p n k f = record {
  kept = f.kept;
  handed = f.handed;
  sifts = f.sifts;
  hands_on = hands_same f.handed ns n k f.hands_on;
  messages = f.messages;
  frames = f.frames;
}

-- a call was made in which nothing came
in_called : (cs : List SocketCall) (ns : List PortCall) (p : BurstData) (c : SocketCall) → arrivals_of (c ∷ []) ≡ []
    → FlowsIn cs ns p → FlowsIn (cs ++ c ∷ []) ns p
in_called cs ns p c none f = record {
  kept = f.kept;
  handed = f.handed;
  sifts = subst (λ ds. Sifts p.peers ds f.kept no_drops p.dropped)
      (sym (arrivals_of-append cs (c ∷ []) ∙ ap (λ x. arrivals_of cs ++ x) none ∙ append-nil (arrivals_of cs))) f.sifts;
  hands_on = f.hands_on;
  messages = f.messages;
  frames = f.frames;
}

in_handed : (asked : ℕ) (cs : List SocketCall) (ns : List PortCall) (p q : BurstData) (g : Addr × ℕ) (buffer : List ℕ)
    (d : Datagram) → TookOut p.messages p.frames (Some d) q.messages q.frames → HandsOn asked (Some d) (Some g) buffer
    → q.peers ≡ p.peers → q.dropped ≡ p.dropped → FlowsIn cs ns p → FlowsIn cs (ns ++ Received asked g.0 (take g.1 buffer) ∷ []) q
in_handed asked cs ns p q g buffer d took fills peers drops f =
    let g_is : g ≡ (d.0, min (length d.1) asked) =
    (let e : Some g ≡ Some (d.0, min (length d.1) asked) = fills.0 in cc) in
    let all = took_all p.peers f.kept f.handed p.messages p.frames (Some d) q.messages q.frames f.messages
    f.frames took in
    record {
      kept = f.kept;
      handed = f.handed ++ d ∷ [];
      sifts = sifts_moved cs f.kept p q peers drops f.sifts;
      hands_on = hands_more f.handed ns d asked g.0 (take g.1 buffer) (ap (λ (x : Addr × ℕ). x.0) g_is)
          (ap (λ (x : Addr × ℕ). take x.1 buffer) g_is ∙ fills.1) f.hands_on;
      messages = subst (λ ps. messages_of ps f.kept ≡ messages_of ps (f.handed ++ d ∷ []) ++ q.messages)
          (sym peers) all.0;
      frames = subst (λ ps. frames_of ps f.kept ≡ frames_of ps (f.handed ++ d ∷ []) ++ q.frames)
          (sym peers) all.1;
    }

in_moved : (cs : List SocketCall) (ns : List PortCall) (p q : BurstData) → q.peers ≡ p.peers → q.messages ≡ p.messages
    → q.frames ≡ p.frames → q.dropped ≡ p.dropped → FlowsIn cs ns p → FlowsIn cs ns q
in_moved cs ns p q peers ms fs drops f = record {
  kept = f.kept;
  handed = f.handed;
  sifts = sifts_moved cs f.kept p q peers drops f.sifts;
  hands_on = f.hands_on;
  messages = subst (λ ps. messages_of ps f.kept ≡ messages_of ps f.handed ++ q.messages) (sym peers)
      (f.messages ∙ ap (λ x. messages_of p.peers f.handed ++ x) (sym ms));
  frames = subst (λ ps. frames_of ps f.kept ≡ frames_of ps f.handed ++ q.frames) (sym peers)
      (f.frames ∙ ap (λ x. frames_of p.peers f.handed ++ x) (sym fs));
}

hand_in : (asked : ℕ) (cs : List SocketCall) (ns : List PortCall) (p q : BurstData)
    (r : Result (Option (Addr × ℕ)) PortFault) (buffer : List ℕ) → HandsNextOn asked p r buffer q
    → FlowsIn cs ns p → FlowsIn cs (ns ++ receive_of asked r buffer ∷ []) q
hand_in asked cs ns p q (Err e) buffer h f =
    in_noted cs ns q (Fault asked) (λ es e. e) (subst (FlowsIn cs ns) (sym h) f)
hand_in asked cs ns p q (Ok None) buffer (None, took, hands, rest) f =
    let t = took_none p.messages p.frames q.messages q.frames took in
    in_noted cs ns q (NoDatagram asked) (λ es e. e)
    (in_moved cs ns p q (ap (λ (x : BurstData). x.peers) rest) t.0 t.1 (ap (λ (x : BurstData). x.dropped) rest) f)
hand_in asked cs ns p q (Ok None) buffer (Some d, took, hands, rest) f =
    absurd (none_or (d.0, min (length d.1) asked) hands.0)
hand_in asked cs ns p q (Ok (Some g)) buffer (None, took, hands, rest) f = absurd (none_or g (sym hands))
hand_in asked cs ns p q (Ok (Some g)) buffer (Some d, took, hands, rest) f =
    in_handed asked cs ns p q g buffer d took hands (ap (λ (x : BurstData). x.peers) rest)
    (ap (λ (x : BurstData). x.dropped) rest) f

-- Step by step.

on_more : (cs : List SocketCall) (ns ms : List PortCall) (p q : BurstData) (n : Option PortCall)
    (calls : List SocketCall) → port_calls ((n, calls) ∷ []) ≡ ms → StepsTo (n, calls) p q
    → FlowsOn cs ns p → FlowsOn (cs ++ calls) (ns ++ ms) q
on_more cs ns ms p q n calls is step f = record {
  first = f.first;
  begins = f.begins;
  steps = f.steps ++ (n, calls) ∷ [];
  by_socket = ap (λ x. x ++ calls) f.by_socket ∙ ap (λ x. socket_calls f.steps ++ x) (sym (append-nil calls))
      ∙ sym (socket_calls-append f.steps ((n, calls) ∷ []));
  by_port = ap (λ x. x ++ ms) f.by_port ∙ ap (λ x. port_calls f.steps ++ x) (sym is)
      ∙ sym (port_calls-append f.steps ((n, calls) ∷ []));
  goes = goes_more f.steps (n, calls) f.first p q f.goes step;
}

receive_steps : (asked : ℕ) (r : Result (Option (Addr × ℕ)) PortFault) (buffer : List ℕ) (p q : BurstData)
    (w : Receives asked (turn_begun p) r buffer q) → StepsTo (Some (receive_of asked r buffer), w.calls) p q
receive_steps asked (Ok None) buffer p q w =
    record { result = Ok None; buffer = buffer; receives = w; noted = refl; made = refl }
receive_steps asked (Ok (Some g)) buffer p q w =
    record { result = Ok (Some g); buffer = buffer; receives = w; noted = refl; made = refl }
receive_steps asked (Err e) buffer p q w =
    record { result = Err e; buffer = buffer; receives = w; noted = refl; made = refl }

send_steps : (s : PacketData) (r : Result (Unit {0}) PortFault) (calls : List SocketCall) (p q : BurstData)
    → SendsOrKeeps s p r q → (calls ≡ departure_of r s ∷ []) ⊎ ((calls ≡ []) × (is_long s.octets ≡ true))
    → Called p.socket q.socket calls
    → StepsTo (Some (send_of r s), calls) p q
send_steps s (Ok u) calls p q w made called =
    record { result = Ok u; sends = w; noted = refl; made = made; called = called }
send_steps s (Err e) calls p q w made called =
    record { result = Err e; sends = w; noted = refl; made = made; called = called }

-- Both ways.

received_flows : (asked : ℕ) (cs : List SocketCall) (ns : List PortCall) (p q : BurstData)
    (r : Result (Option (Addr × ℕ)) PortFault) (buffer : List ℕ) (w : Receives asked (turn_begun p) r buffer q)
    → Flows cs ns p → Flows (cs ++ w.calls) (ns ++ receive_of asked r buffer ∷ []) q
received_flows asked cs ns p q r buffer w f = record {
  comes = hand_in asked (cs ++ w.calls) ns w.mid q r buffer w.hands_on
      (in_worked cs ns (turn_begun p) w.mid w.calls w.worked
      (in_moved cs ns p (turn_begun p) refl refl refl refl f.comes));
  goes = on_more cs ns (receive_of asked r buffer ∷ []) p q (Some (receive_of asked r buffer)) w.calls refl
      (receive_steps asked r buffer p q w) f.goes;
}

finished_flows : (cs : List SocketCall) (ns : List PortCall) (p q : BurstData) (calls : List SocketCall)
    → Finishing calls p q → Flows cs ns p → Flows (cs ++ calls) (ns ++ []) q
finished_flows cs ns p q calls w f = record {
  comes = subst (λ x. FlowsIn (cs ++ calls) x q) (sym (append-nil ns)) (in_worked cs ns p q calls w.worked f.comes);
  goes = on_more cs ns [] p q None calls refl w f.goes;
}

through_in : (cs : List SocketCall) (ns : List PortCall) (p q : BurstData) (s : PacketData)
    (r : Result (Unit {0}) PortFault) → q.peers ≡ p.peers → q.messages ≡ p.messages → q.frames ≡ p.frames
    → q.dropped ≡ p.dropped → FlowsIn cs ns p → FlowsIn (cs ++ departure_of r s ∷ []) (ns ++ send_of r s ∷ []) q
through_in cs ns p q s (Ok u) peers ms fs drops f =
    in_noted (cs ++ Sent s ∷ []) ns q (PacketSent s) (λ es e. e)
    (in_called cs ns q (Sent s) refl (in_moved cs ns p q peers ms fs drops f))
through_in cs ns p q s (Err e) peers ms fs drops f =
    in_noted (cs ++ Unsent s ∷ []) ns q (PacketLost s) (λ es e. e)
    (in_called cs ns q (Unsent s) refl (in_moved cs ns p q peers ms fs drops f))

-- a datagram was handed to the socket in the call in which the port was given it
through : (cs : List SocketCall) (ns : List PortCall) (p q : BurstData) (s : PacketData)
    (r : Result (Unit {0}) PortFault) → q.peers ≡ p.peers → q.messages ≡ p.messages → q.frames ≡ p.frames
    → q.dropped ≡ p.dropped → SendsOrKeeps s p r q → Called p.socket q.socket (departure_of r s ∷ []) → Flows cs ns p
    → Flows (cs ++ departure_of r s ∷ []) (ns ++ send_of r s ∷ []) q
through cs ns p q s r peers ms fs drops w called f = record {
  comes = through_in cs ns p q s r peers ms fs drops f.comes;
  goes = on_more cs ns (send_of r s ∷ []) p q (Some (send_of r s)) (departure_of r s ∷ []) refl
      (send_steps s r (departure_of r s ∷ []) p q w (inl refl) called) f.goes;
}

-- a frame waits
waited : (cs : List SocketCall) (ns : List PortCall) (p q : BurstData) (s : PacketData) (u : Unit {0})
    → is_long s.octets ≡ true → q.peers ≡ p.peers → q.messages ≡ p.messages → q.frames ≡ p.frames
    → q.dropped ≡ p.dropped → SendsOrKeeps s p (Ok u) q → Called p.socket q.socket [] → Flows cs ns p
    → Flows (cs ++ []) (ns ++ PacketSent s ∷ []) q
waited cs ns p q s u long peers ms fs drops w called f = record {
  comes = subst (λ x. FlowsIn x (ns ++ PacketSent s ∷ []) q) (sym (append-nil cs))
      (in_noted cs ns q (PacketSent s) (λ es e. e) (in_moved cs ns p q peers ms fs drops f.comes));
  goes = on_more cs ns (PacketSent s ∷ []) p q (Some (PacketSent s)) [] refl
      (send_steps s (Ok u) [] p q w (inr (refl, long)) called) f.goes;
}

-- Records that are kept.

both_noted : (a b : Option (List SocketCall)) (l k : Option (List PortCall)) (calls : List SocketCall)
    (ns : List PortCall) (p q : BurstData) → HasNoted a calls b → NotesAll l ns k
    → ((cs : List SocketCall) (ms : List PortCall) → Flows cs ms p → Flows (cs ++ calls) (ms ++ ns) q)
    → FlowsIfNoted a l p → FlowsIfNoted b k q
both_noted a None l k calls ns p q h n step f = tt
both_noted a (Some b) l None calls ns p q h n step f = tt
both_noted a (Some b) l (Some k) calls ns p q h n step f =
    subst (λ x. Flows x k q) (sym h.2) (subst (λ y. Flows (h.0 ++ calls) y q) (sym n.2)
    (step h.0 n.0 (subst (λ x. FlowsIfNoted x (Some n.0) p) h.1 (subst (λ y. FlowsIfNoted a y p) n.1 f))))

pub received_noted : (l k : Option (List PortCall)) (asked : ℕ) (p q : BurstData)
    (r : Result (Option (Addr × ℕ)) PortFault) (buffer : List ℕ) → Receives asked (turn_begun p) r buffer q
    → NotesAll l (receive_of asked r buffer ∷ []) k
    → FlowsIfNoted p.socket.noted l p → FlowsIfNoted q.socket.noted k q
received_noted l k asked p q r buffer w n f =
    both_noted p.socket.noted q.socket.noted l k w.calls (receive_of asked r buffer ∷ []) p q (received_called w) n
    (λ cs ms. received_flows asked cs ms p q r buffer w) f
  where
    socket_kept : (s : Result (Option (Addr × ℕ)) PortFault) (mid : BurstData) → HandsNextOn asked mid s buffer q
        → q.socket ≡ mid.socket
    socket_kept (Ok got) mid h = ap (λ (x : BurstData). x.socket) h.3
    socket_kept (Err e) mid h = ap (λ (x : BurstData). x.socket) h

    received_called : (v : Receives asked (turn_begun p) r buffer q) → HasNoted p.socket.noted v.calls q.socket.noted
    received_called v = subst (λ x. HasNoted p.socket.noted v.calls x.noted) (sym (socket_kept r v.mid v.hands_on))
        v.worked.called.noted

through_noted : (l k : Option (List PortCall)) (p q : BurstData) (s : PacketData) (r : Result (Unit {0}) PortFault)
    → SendsOrKeeps s p r q → Called p.socket q.socket (departure_of r s ∷ []) → q.peers ≡ p.peers
    → q.messages ≡ p.messages → q.frames ≡ p.frames → q.dropped ≡ p.dropped → NotesAll l (send_of r s ∷ []) k
    → FlowsIfNoted p.socket.noted l p → FlowsIfNoted q.socket.noted k q
through_noted l k p q s r w called peers ms fs drops n f =
    both_noted p.socket.noted q.socket.noted l k (departure_of r s ∷ []) (send_of r s ∷ []) p q called.noted n
    (λ cs ns. through cs ns p q s r peers ms fs drops w called) f

waits_noted : (l k : Option (List PortCall)) (p q : BurstData) (s : PacketData) (r : Result (Unit {0}) PortFault)
    → is_long s.octets ≡ true → SendsOrKeeps s p r q → Waits s p r q → NotesAll l (send_of r s ∷ []) k
    → FlowsIfNoted p.socket.noted l p → FlowsIfNoted q.socket.noted k q
waits_noted l k p q s (Ok u) long w waits n f =
    both_noted p.socket.noted q.socket.noted l k [] (PacketSent s ∷ []) p q called.noted n
    (λ cs ns. waited cs ns p q s u long (ap (λ (x : BurstData). x.peers) waits.1) (ap (λ (x : BurstData). x.messages) waits.1)
    (ap (λ (x : BurstData). x.frames) waits.1) (ap (λ (x : BurstData). x.dropped) waits.1) w called) f
  where
    called : Called p.socket q.socket []
    called = subst (λ (x : BurstData). Called p.socket x.socket []) (sym waits.1) (called_none p.socket)
waits_noted l k p q s (Err e) long w waits n f = absurd waits

longer_noted : (l k : Option (List PortCall)) (p q : BurstData) (s : PacketData) (r : Result (Unit {0}) PortFault)
    → is_long s.octets ≡ true → SendsOrKeeps s p r q → Waits s p r q ⊎ Passes s p r q → NotesAll l (send_of r s ∷ []) k
    → FlowsIfNoted p.socket.noted l p → FlowsIfNoted q.socket.noted k q
longer_noted l k p q s r long w (inl waits) n f = waits_noted l k p q s r long w waits n f
longer_noted l k p q s r long w (inr passes) n f =
    through_noted l k p q s r w passes.0 (ap (λ (x : BurstData). x.peers) passes.1)
    (ap (λ (x : BurstData). x.messages) passes.1) (ap (λ (x : BurstData). x.frames) passes.1)
    (ap (λ (x : BurstData). x.dropped) passes.1) n f

sent_by_kind : (l k : Option (List PortCall)) (p q : BurstData) (s : PacketData) (r : Result (Unit {0}) PortFault)
    (b : Bool) → is_long s.octets ≡ b → SendsOrKeeps s p r q → NotesAll l (send_of r s ∷ []) k
    → FlowsIfNoted p.socket.noted l p → FlowsIfNoted q.socket.noted k q
sent_by_kind l k p q s r true e w n f = longer_noted l k p q s r e w (w.longer e) n f
sent_by_kind l k p q s r false e w n f =
    let m : Called p.socket q.socket (departure_of r s ∷ []) × (q ≡ record p { socket = q.socket; failed = q.failed })
    = w.message e in
    through_noted l k p q s r w m.0 (ap (λ (x : BurstData). x.peers) m.1) (ap (λ (x : BurstData). x.messages) m.1)
    (ap (λ (x : BurstData). x.frames) m.1) (ap (λ (x : BurstData). x.dropped) m.1) n f

pub sent_noted : (l k : Option (List PortCall)) (p q : BurstData) (s : PacketData) (r : Result (Unit {0}) PortFault)
    → SendsOrKeeps s p r q → NotesAll l (send_of r s ∷ []) k
    → FlowsIfNoted p.socket.noted l p → FlowsIfNoted q.socket.noted k q
sent_noted l k p q s r w n f = sent_by_kind l k p q s r (is_long s.octets) refl w n f

pub finished_noted : (l : Option (List PortCall)) (p q : BurstData) → HasWorked p q → q.leaving ≡ []
    → q.messages ≡ p.messages → q.frames ≡ p.frames → q.dropped ≡ p.dropped
    → FlowsIfNoted p.socket.noted l p → FlowsIfNoted q.socket.noted l q
finished_noted l p q w leaving ms fs drops f =
    both_noted p.socket.noted q.socket.noted l l w.calls [] p q w.worked.called.noted (port_noted_none l)
    (λ cs ns. finished_flows cs ns p q w.calls
    (record { worked = w.worked; leaving = leaving; messages = ms; frames = fs; dropped = drops })) f
  where
    port_noted_none : (old : Option (List PortCall)) → NotesAll old [] old
    port_noted_none None = tt
    port_noted_none (Some noted) = (noted, refl, sym (append-nil noted))

pub fresh_burst : (began : Option Duration) (sent : ℕ) → began ≡ None → sent ≡ 0
    → ◌≡◌ {A = Burst} (record { began = nanos_of began; sent = sent }) fresh
fresh_burst began sent b s = rw (b, s) refl

-- at the beginning both records are empty
pub begin_noted : (a : Option (List SocketCall)) (l : Option (List PortCall)) (p : BurstData)
    → IfSome a (λ calls. calls ≡ []) → IfSome l (λ noted. noted ≡ []) → a ≡ p.socket.noted → IsIdle p
    → p.window ≡ whole_window → p.burst ≡ fresh → p.unpaced ≡ 0 → p.dropped ≡ no_drops → FlowsIfNoted a l p
begin_noted None l p ha hl same idle window burst unpaced drops = tt
begin_noted (Some calls) None p ha hl same idle window burst unpaced drops = tt
begin_noted (Some calls) (Some noted) p ha hl same idle window burst unpaced drops =
    rw (ha, hl) (record {
      comes = record {
        kept = [];
        handed = [];
        sifts = (refl, drops);
        hands_on = refl;
        messages = sym idle.messages;
        frames = sym idle.frames;
      };
      goes = record {
        first = p;
        begins = record {
          noted = sym same ∙ ap Some ha;
          idle = idle;
          window = window;
          burst = burst;
          dropped = drops;
          unpaced = unpaced;
        };
        steps = [];
        by_socket = refl;
        by_port = refl;
        goes = refl;
      };
    })

-- the buffer is as long as it was
pub received_at : (l k : Option (List PortCall)) (asked room : ℕ) (p q : BurstData)
    (r : Result (Option (Addr × ℕ)) PortFault) (buffer : List ℕ) → room ≡ asked → Receives asked (turn_begun p) r buffer q
    → NotesAll l (receive_of room r buffer ∷ []) k
    → FlowsIfNoted p.socket.noted l p → FlowsIfNoted q.socket.noted k q
received_at l k asked room p q r buffer same w n f =
    received_noted l k asked p q r buffer w (subst (λ x. NotesAll l (receive_of x r buffer ∷ []) k) same n) f

-- a run of a server through a port whose record was empty before
pub whole_run : (a : Option (List SocketCall)) (l k : Option (List PortCall)) (failed : ℕ) (site end : SiteData)
    (i : RunInput) (report : Report) (p : BurstData) → l ≡ Some [] → ServedOver l failed k site end i report
    → FlowsIfNoted a k p → WholeRunIfNoted a k p site i
whole_run None l k failed site end i report p e s f = tt
whole_run (Some calls) l None failed site end i report p e s f = tt
whole_run (Some calls) l (Some noted) failed site end i report p e s f = record {
  end = s.served.end;
  run = s.served.run;
  flows = subst (λ n. Flows calls n p) (all s.served.made.noted) f;
}
  where
    all : NotesAll l s.served.end.calls (Some noted) → noted ≡ s.served.end.calls
    all n =
        let first : n.0 ≡ [] = (let z : Some n.0 ≡ Some [] = sym n.1 ∙ e in cc) in
        n.2 ∙ ap (λ b. b ++ s.served.end.calls) first

pub served_over : (l m k : Option (List PortCall)) (failed then : ℕ) (site end : SiteData) (i : RunInput) (report : Report)
    → k ≡ m → Served (record { noted = l; failed = failed }) (record { noted = m; failed = then }) site end i report
    → ServedOver l failed k site end i report
served_over l m k failed then site end i report e s = record {
  failed_then = then;
  served = subst (λ n. Served (record { noted = l; failed = failed }) (record { noted = n; failed = then }) site end i report)
      (sym e) s;
}
