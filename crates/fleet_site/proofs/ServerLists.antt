-- Lists of calls of a port, and of what is sent.
-- Serves `carry_out`, `carry_out_sweep`, `give`, `send_frames`, `send_packets`, `send_to_each`, and
-- what `ServeLemmas`, `ServerTurns` serve.
use Rattle.std.proofs.Common.{◌≡◌, ℕ, ◌+◌, ◌<◌, List, [], ◌∷◌, ◌++◌, Option, Some, None, Ok, refl, sym, ap, subst, ◌∙◌, append_assoc, length, take, get_or, is_some}
use Rattle.std.proofs.lemmas.List.{append-nil, take_more}
use Rattle.fleet_pending.specs.declared.addr.Addr.{Addr}
use Rattle.fleet_site.specs.PacketData.{PacketData}
use Rattle.fleet_site.specs.OutcomeData.{OutcomeData, nothing}
use Rattle.fleet_site.specs.server.PortRecord.{PortCall, Received, NoDatagram, Fault, PacketSent, PacketLost, NotesAll, PortState, Made, failures_of, one_more}
use Rattle.fleet_site.specs.server.Sending.{AreSent, count_call, count_calls, count_refusal_in, to_each, to_peers}
use Rattle.fleet_site.specs.steps.Sends.{Sends, CarriesOut}
use Rattle.fleet_site.specs.declared.report.Report.{Report}

pub failures_of-append : (cs ds : List PortCall) (n : ℕ)
    → failures_of (cs ++ ds) n ≡ failures_of ds (failures_of cs n)
failures_of-append [] ds n = refl
failures_of-append (Received asked from octets ∷ cs) ds n = failures_of-append cs ds n
failures_of-append (NoDatagram asked ∷ cs) ds n = failures_of-append cs ds n
failures_of-append (Fault asked ∷ cs) ds n = failures_of-append cs ds (one_more n)
failures_of-append (PacketSent s ∷ cs) ds n = failures_of-append cs ds n
failures_of-append (PacketLost s ∷ cs) ds n = failures_of-append cs ds (one_more n)

pub counting-append : (cs ds : List PortCall) (r : Report)
    → count_calls (cs ++ ds) r ≡ count_calls ds (count_calls cs r)
counting-append [] ds r = refl
counting-append (c ∷ cs) ds r = counting-append cs ds (count_call c r)

sent_both : (ss ts : List PacketData) (cs ds : List PortCall) → AreSent ss cs → AreSent ts ds
    → AreSent (ss ++ ts) (cs ++ ds)
sent_both [] ts [] ds h k = k
sent_both [] ts (c ∷ cs) ds h k = absurd h
sent_both (s ∷ ss) ts [] ds h k = absurd h
sent_both (s ∷ ss) ts (c ∷ cs) ds h k = (h.0, sent_both ss ts cs ds h.1 k)

notes_none : (old : Option (List PortCall)) → NotesAll old [] old
notes_none None = tt
notes_none (Some noted) = (noted, refl, sym (append-nil noted))

notes_both : (old mid new : Option (List PortCall)) (cs ds : List PortCall) → NotesAll old cs mid
    → NotesAll mid ds new → NotesAll old (cs ++ ds) new
notes_both old mid None cs ds h k = tt
notes_both old None (Some now) cs ds h k = let e : None ≡ Some k.0 = k.1 in cc
notes_both old (Some mid) (Some now) cs ds h k =
    let q : k.0 ≡ mid = (let z : Some mid ≡ Some k.0 = k.1 in cc) in
    (h.0, h.1, k.2 ∙ ap (λ xs. xs ++ ds) (q ∙ h.2) ∙ append_assoc h.0 cs ds)

pub made_none : (old : PortState) → Made old old []
made_none old = record { noted = notes_none old.noted; failed = refl }

pub made_both : (old mid new : PortState) (cs ds : List PortCall) → Made old mid cs
    → Made mid new ds → Made old new (cs ++ ds)
made_both old mid new cs ds a b = record {
  noted = notes_both old.noted mid.noted new.noted cs ds a.noted b.noted;
  failed = b.failed ∙ ap (failures_of ds) a.failed ∙ sym (failures_of-append cs ds old.failed);
}

pub sends_more : (old mid new : PortState) (ss ts us : List PacketData) (r q p : Report)
    → us ≡ ss ++ ts → Sends old mid ss r q → Sends mid new ts q p → Sends old new us r p
sends_more old mid new ss ts us r q p e a b = record {
  calls = a.calls ++ b.calls;
  made = made_both old mid new a.calls b.calls a.made b.made;
  sent = rw e (sent_both ss ts a.calls b.calls a.sent b.sent);
  report = b.report ∙ ap (count_calls b.calls) a.report ∙ sym (counting-append a.calls b.calls r);
}

to_each-append : (frame : List ℕ) (ps qs : List Addr)
    → to_each frame (ps ++ qs) ≡ to_each frame ps ++ to_each frame qs
to_each-append frame [] qs = refl
to_each-append frame (p ∷ ps) qs =
    ap (λ xs. record { to = p; octets = frame } ∷ xs) (to_each-append frame ps qs)

to_peers-append : (peers : List Addr) (fs gs : List (List ℕ))
    → to_peers peers (fs ++ gs) ≡ to_peers peers fs ++ to_peers peers gs
to_peers-append peers [] gs = refl
to_peers-append peers (f ∷ fs) gs =
    ap (λ xs. to_each f peers ++ xs) (to_peers-append peers fs gs)
    ∙ sym (append_assoc (to_each f peers) (to_peers peers fs) (to_peers peers gs))

pub packets_more : (ps : List PacketData) (i : ℕ) (p : PacketData) → i < length ps
    → p ≡ get_or ps i p → take (i + 1) ps ≡ take i ps ++ p ∷ []
packets_more ps i p h e = take_more ps i p h ∙ ap (λ x. take i ps ++ x ∷ []) (sym e)

pub to_each_more : (frame : List ℕ) (ps : List Addr) (i : ℕ) (d : Addr) → i < length ps
    → to_each frame (take (i + 1) ps) ≡ to_each frame (take i ps)
    ++ record { to = get_or ps i d; octets = frame } ∷ []
to_each_more frame ps i d h =
    ap (to_each frame) (take_more ps i d h) ∙ to_each-append frame (take i ps) (get_or ps i d ∷ [])

pub to_peers_more : (peers : List Addr) (fs : List (List ℕ)) (i : ℕ) (f : List ℕ) → i < length fs
    → f ≡ get_or fs i f
    → to_peers peers (take (i + 1) fs) ≡ to_peers peers (take i fs) ++ to_each f peers
to_peers_more peers fs i f h e =
    let a : take (i + 1) fs ≡ take i fs ++ f ∷ [] =
    take_more fs i f h ∙ ap (λ (x : List ℕ). take i fs ++ x ∷ []) (sym e) in
    ap (to_peers peers) a ∙ to_peers-append peers (take i fs) (f ∷ [])
    ∙ ap (λ xs. to_peers peers (take i fs) ++ xs) (append-nil (to_each f peers))

pub carries : (old mid new : PortState) (peers : List Addr) (e : OutcomeData)
    (ss ts : List PacketData) (r q p u : Report)
    → ss ≡ e.packets → ts ≡ to_peers peers e.frames → q ≡ count_refusal_in (is_some e.refused) r
    → Sends old mid ss q p → Sends mid new ts p u
    → CarriesOut old new peers (Ok e) r u
carries old mid new peers e ss ts r q p u d k i a b =
    let all = sends_more old mid new ss ts (ss ++ ts) q p u refl a b in
    record {
      calls = all.calls;
      made = all.made;
      sent = subst (λ (xs : List PacketData). AreSent xs all.calls)
          (ap (λ (xs : List PacketData). xs ++ ts) d ∙ ap
          (λ (xs : List PacketData). e.packets ++ xs) k)
          all.sent;
      report = all.report ∙ ap (count_calls all.calls) i;
    }

pub carries_frames : (old new : PortState) (peers : List Addr) (ts : List PacketData)
    (fs : List (List ℕ)) (r q : Report)
    → ts ≡ to_peers peers fs → Sends old new ts r q
    → CarriesOut old new peers (Ok (record nothing { frames = fs })) r q
carries_frames old new peers ts fs r q e a = record {
  calls = a.calls;
  made = a.made;
  sent = subst (λ (xs : List PacketData). AreSent xs a.calls) e a.sent;
  report = a.report;
}
