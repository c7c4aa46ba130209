-- A receive of a port in which something waits.
-- Serves `Bursts::send_waiting`, `Bursts::take_in`, `Bursts::take_next`, `Bursts::work`.
use Rattle.std.proofs.Common.{◌≡◌, ◌⊎◌, inl, inr, ℕ, ◌+◌, ◌≤◌, ◌<◌, Bool, true, false, cond, not, List, [], ◌∷◌, ◌++◌, length, take, Option, Some, None, Result, Ok, Err, IfOk, IfSome, refl, sym, ap, subst, ◌∙◌, arith}
use Rattle.std.proofs.lemmas.Bool.{cases_lt}
use Rattle.fleet_pending.specs.declared.addr.Addr.{Addr}
use Rattle.fleet_site.specs.declared.port.PortFault.{PortFault}
use Rattle.fleet_site.specs.socket.SocketRecord.{SocketCall, Came, NoneCame, Failed, ClockRead, Paused, Switched, Called, arrival_of}
use Rattle.fleet_site.specs.socket.Waiting.{Datagram, Arrived, with_one, without_one, Takes, TookOut, HandsOn, is_frame, arrivals_of}
use Rattle.fleet_site.specs.declared.bursts.TheConstants.{BURST}
use Rattle.fleet_site.specs.socket.Bursts.{BurstData, arrived_of, has_waiting, Works, Listens, OnlyTakeIn, ListensFor, IsPause, SendsOn, Worked, WorkedOn, Switches, IsSwitch, WorksThenHandsOn, TookIn, TookAll, TakesThenHandsOn, SentSome, SentOn, ReadsClock, joined}
use Rattle.fleet_site.proofs.SocketCalls.{arrivals_of-append, pause_longer, works_both, works_pause, takes_work, sends_work, listens_before, listens_after, listens_or_none}
use Rattle.fleet_site.proofs.Working.{worked_both, sent_both, took_both, came_none, came_failed, came_joined, clock_read, hands_next, none_or, nothing_handed, none_waits, took_only, fills_one, Asked, keeping, worked_shorter, empty_last, none_others, switched}

-- Sending on.

sent_after_clock : (a b c : BurstData) (h : ReadsClock a b) (k : SentSome b c)
    → (b.burst.sent < BURST → (b.leaving ≡ [] → ⊥) → length c.leaving < length b.leaving)
    → (b.burst.sent < BURST) ⊎ (BURST ≤ b.burst.sent) → SendsOn a (ClockRead h.time ∷ k.calls) c
sent_after_clock a b c h k shorter (inl room) some =
    let same : b.leaving ≡ a.leaving = ap (λ (p : BurstData). p.leaving) h.rest in
    inl (subst (λ ds. length c.leaving < length ds) same (shorter room (λ e. some (sym same ∙ e))))
sent_after_clock a b c h k shorter (inr full) some = inr (subst (λ x. BURST ≤ x.sent) h.burst full)

-- the clock was read, and then of what waits was sent what the burst has room for
pub clock_sends : (a b c : BurstData) → ReadsClock a b → SentSome b c
    → (b.burst.sent < BURST → (b.leaving ≡ [] → ⊥) → length c.leaving < length b.leaving) → SentOn a c
unfolding sent_both clock_read
clock_sends a b c h k shorter = record {
  sent = sent_both a b c (clock_read a b h.time h.called h.burst h.rest) k;
  sends = sent_after_clock a b c h k shorter (cases_lt b.burst.sent BURST);
}

-- what was sent stays so, and what the clock said first stays said
sends_still : (a b c : BurstData) (xs ys : List SocketCall) → Worked b c ys → SendsOn a xs b → SendsOn a (xs ++ ys) c
sends_still a b c xs ys k sends some = by_way (sends some)
  where
    by_way : (length b.leaving < length a.leaving) ⊎ IsPause a.burst xs
        → (length c.leaving < length a.leaving) ⊎ IsPause a.burst (xs ++ ys)
    by_way (inl l) = inl (chain (length b.leaving) l (worked_shorter b c ys k))
      where
        chain : (n : ℕ) → n < length a.leaving → length c.leaving ≤ n → length c.leaving < length a.leaving
        chain n x y = omega arith
    by_way (inr p) = inr (pause_longer a.burst xs ys p)

-- Taking in.

refuses : (done : Bool) (calls : List SocketCall) → IsSwitch false calls done → done ≡ false → Listens calls
refuses done [] is e = absurd (let bad : true ≡ false = sym is ∙ e in cc)
refuses done (call ∷ []) is e =
    subst (λ c. Listens (c ∷ [])) (sym (is ∙ ap (λ d. Switched false d) e)) tt
refuses done (call ∷ next ∷ calls) is e = absurd is

-- the system refused to have receives return at once
pub refused : (asked : ℕ) (done : Bool) (a b : BurstData) → Switches false a done b → done ≡ false
    → TookAll asked a (Ok true) b
unfolding switched
refused asked done a b s e = record { took = switched asked done a b s; listened = refuses done s.0 s.1 e }

-- receives return at once from now on
pub now_quick : (asked : ℕ) (done : Bool) (a b : BurstData) → Switches false a done b → done ≡ true
    → TookAll asked a (Ok false) b
now_quick asked done a b s e = record {
  took = switched asked done a b s;
  listened = (
    ap (λ (p : BurstData). p.messages) s.3,
    ap (λ (p : BurstData). p.frames) s.3,
    s.4 ∙ ap (λ d. cond d false (not false)) e,
  );
}

-- only the room for what comes changed
pub room_made : (asked : ℕ) (a b c : BurstData) (r : Result Bool PortFault) → TookAll asked a r b → c ≡ b
    → TookAll asked a r c
room_made asked a b c r t same = subst (λ p. TookAll asked a r p) (sym same) t

-- one receive more
looked_at : (asked : ℕ) (a b c : BurstData) (r : Result Bool PortFault) (t : TookAll asked a r b) (calls : List SocketCall)
    → Worked b c calls → OnlyTakeIn asked calls → Listens calls → TookAll asked a (Ok true) c
unfolding took_both
looked_at asked a b c r t calls worked only listens = record {
  took = took_both asked a b c t.took (record { calls = calls; worked = worked; only = only });
  listened = listens_after t.took.calls calls listens;
}

pub looked_on : (asked room : ℕ) (a b c : BurstData) (r : Result Bool PortFault) (calls : List SocketCall)
    → TookAll asked a r b → room ≡ asked → Worked b c calls → OnlyTakeIn room calls → Listens calls
    → TookAll asked a (Ok true) c
looked_on asked room a b c r calls t size worked only listens =
    looked_at asked a b c r t calls worked (subst (λ k. OnlyTakeIn k calls) size only) listens

pub failed_on : (asked room : ℕ) (a b c : BurstData) (r : Result Bool PortFault) (e : PortFault) (calls : List SocketCall)
    → TookAll asked a r b → room ≡ asked → Worked b c calls → OnlyTakeIn room calls → TookAll asked a (Err e) c
failed_on asked room a b c r e calls t size worked only = record {
  took = took_both asked a b c t.took (record { calls = calls; worked = worked; only = subst (λ k. OnlyTakeIn k calls) size only });
  listened = tt;
}

-- what a receive of the socket was, by its result
pub took_as : (asked : ℕ) (a b : BurstData) (r q : Result Bool PortFault) → r ≡ q → TookAll asked a r b → TookAll asked a q b
took_as asked a b r q e t = subst (λ x. TookAll asked a x b) e t

pub takes_as : (asked : ℕ) (a b : BurstData) (r q : Result (Option (Addr × ℕ)) PortFault) (buffer : List ℕ) → r ≡ q
    → TakesThenHandsOn asked a r buffer b → TakesThenHandsOn asked a q buffer b
takes_as asked a b r q buffer e w = subst (λ x. TakesThenHandsOn asked a x buffer b) e w

-- Handing on.

-- it listened, and the next datagram was handed on
pub all_handed : (asked room : ℕ) (a b p : BurstData) (got : Option (Addr × ℕ)) (buffer : List ℕ)
    → TookAll asked a (Ok true) b → room ≡ asked
    → (taken : Option Datagram) × TookOut b.messages b.frames taken p.messages p.frames × HandsOn room taken got buffer
    → p ≡ record b { messages = p.messages; frames = p.frames } → TakesThenHandsOn asked a (Ok got) buffer p
all_handed asked room a b p got buffer t size h rest = record {
  mid = b;
  took = t.took;
  listens = λ free. t.listened;
  hands_on = hands_next asked room b p got buffer size h rest;
}

some_there : (room : ℕ) (ms fs ns gs : List Datagram) (x : Addr × ℕ) (buffer : List ℕ)
    → (taken : Option Datagram) × TookOut ms fs taken ns gs × HandsOn room taken (Some x) buffer → has_waiting ms fs ≡ true
some_there room ms fs ns gs x buffer (None, took, hands) = absurd (none_or x (sym hands))
some_there room [] [] ns gs x buffer (Some d, took, hands) = absurd (none_or d (sym took.0))
some_there room [] (e ∷ fs) ns gs x buffer (Some d, took, hands) = refl
some_there room (e ∷ ms) fs ns gs x buffer (Some d, took, hands) = refl

-- there was no room, and what waited was handed on
pub waiting_handed : (asked room : ℕ) (a b p : BurstData) (x : Addr × ℕ) (buffer : List ℕ)
    → TookAll asked a (Ok false) b → room ≡ asked
    → (taken : Option Datagram) × TookOut b.messages b.frames taken p.messages p.frames × HandsOn room taken (Some x) buffer
    → p ≡ record b { messages = p.messages; frames = p.frames } → TakesThenHandsOn asked a (Ok (Some x)) buffer p
waiting_handed asked room a b p x buffer t size h rest = record {
  mid = b;
  took = t.took;
  listens = λ free. absurd (let bad : false ≡ true = sym free ∙ there in cc);
  hands_on = hands_next asked room b p (Some x) buffer size h rest;
}
  where
    there : has_waiting a.messages a.frames ≡ true
    there = ap (λ ms. has_waiting ms a.frames) (sym t.listened.0) ∙ ap (λ fs. has_waiting b.messages fs) (sym t.listened.1)
        ∙ some_there room b.messages b.frames p.messages p.frames x buffer h

pub none_taken : (asked : ℕ) (a b : BurstData) (e : PortFault) (buffer : List ℕ) → TookAll asked a (Err e) b
    → TakesThenHandsOn asked a (Err e) buffer b
none_taken asked a b e buffer t = record { mid = b; took = t.took; listens = tt; hands_on = refl }

-- nothing waits, and what comes is handed on at once
past_room : (asked : ℕ) (p q : BurstData) (r : Result (Option (Addr × ℕ)) PortFault) (buffer : List ℕ)
    → p.socket.waits ≡ false → Called p.socket q.socket (arrival_of p.socket.waits asked r buffer ∷ []) → Asked p q r
    → p.messages ≡ [] → p.frames ≡ [] → length buffer ≡ asked → IfOk r (λ got. IfSome got (λ x. x.1 ≤ asked))
    → TakesThenHandsOn asked p r buffer q
past_room asked p q (Ok None) buffer mode called rest ms fs size fits = record {
  mid = q;
  took = record {
    calls = NoneCame false asked ∷ [];
    worked = came_none p q false asked (Ok None) buffer mode called refl (keeping p q (Ok None) rest)
        (ap arrived_of rest) (ap (λ (x : BurstData). x.failed) rest);
    only = (refl, refl, tt);
  };
  listens = λ free. tt;
  hands_on = (None, rw (no_messages, no_frames) (refl, refl, refl), refl, refl);
}
  where
    no_messages : q.messages ≡ []
    no_messages = ap (λ (x : BurstData). x.messages) rest ∙ ms

    no_frames : q.frames ≡ []
    no_frames = ap (λ (x : BurstData). x.frames) rest ∙ fs
past_room asked p q (Ok (Some (from, n))) buffer mode called rest ms fs size fits = record {
  mid = joined (from, take n buffer) q;
  took = record {
    calls = Came false asked from (take n buffer) ∷ [];
    worked = came_joined p q false asked (Ok (Some (from, n))) buffer from n mode called rest refl;
    only = (refl, refl, tt);
  };
  listens = λ free. tt;
  hands_on = (
    Some (from, take n buffer),
    took_only (is_frame q.peers (from, take n buffer)) (from, take n buffer) q.messages q.frames
        (ap (λ (x : BurstData). x.messages) rest ∙ ms) (ap (λ (x : BurstData). x.frames) rest ∙ fs),
    fills_one asked from n buffer fits size,
    refl,
  );
}
past_room asked p q (Err e) buffer mode called rest ms fs size fits = record {
  mid = q;
  took = record {
    calls = Failed false asked ∷ [];
    worked = came_failed p q false asked (Err e) buffer e mode called refl (keeping p q (Err e) rest)
        (ap arrived_of rest) (ap (λ (x : BurstData). x.failed) rest);
    only = (refl, refl, tt);
  };
  listens = tt;
  hands_on = refl;
}

listens_later : (r : Result (Option (Addr × ℕ)) PortFault) (a p : BurstData) (xs ys : List SocketCall)
    → has_waiting p.messages p.frames ≡ false → ListensFor r p ys → ListensFor r a (xs ++ ys)
listens_later (Ok got) a p xs ys free h = λ _. listens_after xs ys (h free)
listens_later (Err e) a p xs ys free h = tt

took_before : (asked : ℕ) (a p q : BurstData) (r : Result (Option (Addr × ℕ)) PortFault) (buffer : List ℕ) → TookIn asked a p
    → has_waiting p.messages p.frames ≡ false → TakesThenHandsOn asked p r buffer q → TakesThenHandsOn asked a r buffer q
unfolding took_both
took_before asked a p q r buffer h free w = record {
  mid = w.mid;
  took = took_both asked a p w.mid h w.took;
  listens = listens_later r a p h.calls w.took.calls free w.listens;
  hands_on = w.hands_on;
}

-- there was no room, nothing waited, and the next one that came was handed on at once
pub came_past_room : (asked room len : ℕ) (a b p q : BurstData) (r : Result (Option (Addr × ℕ)) PortFault)
    (first buffer : List ℕ) → TookAll asked a (Ok false) b
    → (taken : Option Datagram) × TookOut b.messages b.frames taken p.messages p.frames × HandsOn room taken None first
    → p ≡ record b { messages = p.messages; frames = p.frames }
    → Called p.socket q.socket (arrival_of p.socket.waits len r buffer ∷ []) → Asked p q r
    → length buffer ≡ len → IfOk r (λ got. IfSome got (λ x. x.1 ≤ len)) → len ≡ asked
    → TakesThenHandsOn asked a r buffer q
came_past_room asked room len a b p q r first buffer t h rest called asks size fits same =
    let none : (p.messages ≡ []) × (p.frames ≡ []) = none_waits room b.messages b.frames p.messages p.frames first h in
    took_before asked a p q r buffer (subst (λ x. TookIn asked a x) (sym (nothing_handed room b p first h rest)) t.took)
    (ap (λ ms. has_waiting ms p.frames) none.0 ∙ ap (λ fs. has_waiting [] fs) none.1)
    (subst (λ k. TakesThenHandsOn k p r buffer q) same
    (past_room len p q r buffer (ap (λ (x : BurstData). x.socket.waits) rest ∙ t.listened.2) called asks none.0 none.1 size fits))

-- Working on.

-- a receive so far: once it looked for datagrams, it listened
pub record Working (asked : ℕ) (old new : BurstData) (looks : ℕ) : Type 0 where
  pub on : WorkedOn asked old new
  pub listens : 0 < looks → has_waiting old.messages old.frames ≡ false → Listens on.calls

pub begun : (asked : ℕ) (a b : BurstData) → SentOn a b → Working asked a b 0
begun asked a b h = record {
  on = record {
    calls = h.sent.calls;
    worked = h.sent.worked;
    works = sends_work asked (has_waiting a.messages a.frames) false h.sent.calls h.sent.only;
    sends = h.sends;
  };
  listens = λ some free. absurd (omega (arith, some));
}

on_then : (asked : ℕ) (a b c : BurstData) (h : WorkedOn asked a b) (ys : List SocketCall) → Worked b c ys
    → Works asked (has_waiting a.messages a.frames) false (h.calls ++ ys) → WorkedOn asked a c
on_then asked a b c h ys k works = record {
  calls = h.calls ++ ys;
  worked = worked_both a b c h.calls ys h.worked k;
  works = works;
  sends = sends_still a b c h.calls ys k h.sends;
}

-- where nothing waited and nothing came, nothing waits
still_free : (a b : BurstData) (xs : List SocketCall) → Worked a b xs → arrivals_of xs ≡ []
    → has_waiting a.messages a.frames ≡ false → has_waiting b.messages b.frames ≡ false
still_free a b xs h none free = ap (λ (x : Arrived). has_waiting x.messages x.frames) same ∙ free
  where
    same : arrived_of b ≡ arrived_of a
    same = subst (λ ds. Takes a.peers ds (arrived_of a) (arrived_of b)) none h.takes

took_listens : (a b : BurstData) (r : Result (Option (Addr × ℕ)) PortFault) (xs ys : List SocketCall) → Worked a b xs
    → ListensFor r b ys → ListensFor r a (xs ++ ys)
took_listens a b (Ok got) xs ys h k = λ free. by_calls free (listens_or_none xs)
  where
    by_calls : has_waiting a.messages a.frames ≡ false → Listens xs ⊎ (arrivals_of xs ≡ []) → Listens (xs ++ ys)
    by_calls free (inl l) = listens_before xs ys l
    by_calls free (inr none) = listens_after xs ys (k (still_free a b xs h none free))
took_listens a b (Err e) xs ys h k = tt

took_works : (asked : ℕ) (a b m : BurstData) (h : WorkedOn asked a b) (k : TookIn asked b m)
    → Works asked (has_waiting a.messages a.frames) false (h.calls ++ k.calls)
took_works asked a b m h k = works_both asked _ false h.calls k.calls h.works (takes_work asked true false k.calls k.only)

ends_at : (asked : ℕ) (a b c : BurstData) (n : ℕ) (r : Result (Option (Addr × ℕ)) PortFault) (buffer : List ℕ)
    → Working asked a b n → TakesThenHandsOn asked b r buffer c → WorksThenHandsOn asked a r buffer c
unfolding on_then
ends_at asked a b c n r buffer h v = record {
  mid = v.mid;
  worked_on = on_then asked a b v.mid h.on v.took.calls v.took.worked (took_works asked a b v.mid h.on v.took);
  listens = took_listens a b r h.on.calls v.took.calls h.on.worked v.listens;
  hands_on = v.hands_on;
}

-- the receive ended with a look for datagrams
pub took_ends : (asked room : ℕ) (a b c : BurstData) (n : ℕ) (r : Result (Option (Addr × ℕ)) PortFault) (buffer : List ℕ)
    → Working asked a b n → room ≡ asked → TakesThenHandsOn room b r buffer c → WorksThenHandsOn asked a r buffer c
took_ends asked room a b c n r buffer h size w =
    ends_at asked a b c n r buffer h (subst (λ k. TakesThenHandsOn k b r buffer c) size w)

pub began_ends : (asked : ℕ) (a b : BurstData) (e : PortFault) (buffer : List ℕ) → SentOn a b
    → WorksThenHandsOn asked a (Err e) buffer b
began_ends asked a b e buffer h = record { mid = b; worked_on = (begun asked a b h).on; listens = tt; hands_on = refl }

-- the last look was made
pub looks_end : (asked room : ℕ) (a b c : BurstData) (n : ℕ) (got : Option (Addr × ℕ)) (buffer : List ℕ)
    → Working asked a b n → 0 < n → room ≡ asked
    → (taken : Option Datagram) × TookOut b.messages b.frames taken c.messages c.frames × HandsOn room taken got buffer
    → c ≡ record b { messages = c.messages; frames = c.frames } → WorksThenHandsOn asked a (Ok got) buffer c
looks_end asked room a b c n got buffer h some size handed rest = record {
  mid = b;
  worked_on = h.on;
  listens = h.listens some;
  hands_on = hands_next asked room b c got buffer size handed rest;
}

empty_first : (xs ys : List Datagram) → xs ++ ys ≡ [] → xs ≡ []
empty_first [] ys e = refl
empty_first (x ∷ xs) ys e = let bad : x ∷ (xs ++ ys) ≡ [] = e in cc

-- where nothing waits, nothing waited, and nothing came
pub record NoneTaken (ds : List Datagram) (old : Arrived) : Type 0 where
  pub none : ds ≡ []
  pub messages : old.messages ≡ []
  pub frames : old.frames ≡ []

none_kept : (kind : Bool) (d : Datagram) (ms fs : List Datagram) → ms ++ cond kind [] (d ∷ []) ≡ []
    → fs ++ cond kind (d ∷ []) [] ≡ [] → ⊥
none_kept true d ms fs m f = let bad : d ∷ [] ≡ [] = empty_last fs (d ∷ []) f in cc
none_kept false d ms fs m f = let bad : d ∷ [] ≡ [] = empty_last ms (d ∷ []) m in cc

none_taken_in : (ps : List Addr) (ds : List Datagram) (a b : Arrived) → Takes ps ds a b → b.messages ≡ [] → b.frames ≡ []
    → NoneTaken ds a
none_taken_in ps [] a b h ms fs = record {
  none = refl;
  messages = sym (ap (λ (x : Arrived). x.messages) h) ∙ ms;
  frames = sym (ap (λ (x : Arrived). x.frames) h) ∙ fs;
}
none_taken_in ps (d ∷ ds) a b (inl h) ms fs =
    let r = none_taken_in ps ds (with_one ps d a) b h ms fs in
    absurd (none_kept (is_frame ps d) d a.messages a.frames r.messages r.frames)
none_taken_in ps (d ∷ ds) a b (inr h) ms fs =
    let r = none_taken_in ps ds (without_one ps d a) b h.1 ms fs in
    absurd (none_others (is_frame ps d) a.messages a.frames r.messages r.frames h.0)

-- where nothing waits, nothing waited and nothing came
pub record NothingCame (a : BurstData) (xs : List SocketCall) : Type 0 where
  pub free : has_waiting a.messages a.frames ≡ false
  pub none : arrivals_of xs ≡ []

nothing_came : (a b : BurstData) (xs : List SocketCall) → Worked a b xs → b.messages ≡ [] → b.frames ≡ [] → NothingCame a xs
nothing_came a b xs h ms fs =
    let r = none_taken_in a.peers (arrivals_of xs) (arrived_of a) (arrived_of b) h.takes ms fs in
    record {
      free = ap (λ x. has_waiting x a.frames) r.messages ∙ ap (λ x. has_waiting [] x) r.frames;
      none = r.none;
    }

pause_works : (asked : ℕ) (waits : Bool) (xs ys : List SocketCall) → Works asked waits false xs → waits ≡ false
    → arrivals_of xs ≡ [] → OnlyTakeIn asked ys → Listens ys → arrivals_of ys ≡ []
    → Works asked waits false ((xs ++ ys) ++ Paused ∷ [])
pause_works asked true xs ys h free = absurd (let bad : true ≡ false = free in cc)
pause_works asked false xs ys h free = works_pause asked false xs ys h

-- it looked and found nothing, and a pause passed
paused_then : (asked : ℕ) (a b m q : BurstData) (n : ℕ) (h : Working asked a b n) (k : TookIn asked b m)
    → ListensFor (Ok None) b k.calls → m.messages ≡ [] → m.frames ≡ [] → Worked m q (Paused ∷ []) → Working asked a q (n + 1)
unfolding on_then
paused_then asked a b m q n h k listens ms fs pause = record {
  on = on_then asked a m q (on_then asked a b m h.on k.calls k.worked (took_works asked a b m h.on k)) (Paused ∷ []) pause works;
  listens = λ some free. listens_before (h.on.calls ++ k.calls) (Paused ∷ [])
      (took_listens a b (Ok None) h.on.calls k.calls h.on.worked listens free);
}
  where
    all : NothingCame a (h.on.calls ++ k.calls)
    all = nothing_came a m (h.on.calls ++ k.calls) (worked_both a b m h.on.calls k.calls h.on.worked k.worked) ms fs

    here : NothingCame b k.calls
    here = nothing_came b m k.calls k.worked ms fs

    first : arrivals_of h.on.calls ≡ []
    first = empty_first (arrivals_of h.on.calls) (arrivals_of k.calls) (sym (arrivals_of-append h.on.calls k.calls) ∙ all.none)

    works : Works asked (has_waiting a.messages a.frames) false ((h.on.calls ++ k.calls) ++ Paused ∷ [])
    works = pause_works asked (has_waiting a.messages a.frames) h.on.calls k.calls h.on.works all.free first k.only
        (listens here.free) here.none

sent_then : (asked : ℕ) (a b c : BurstData) (n : ℕ) → Working asked a b n → SentOn b c → Working asked a c n
unfolding on_then
sent_then asked a b c n h k = record {
  on = on_then asked a b c h.on k.sent.calls k.sent.worked
      (works_both asked _ false h.on.calls k.sent.calls h.on.works (sends_work asked true false k.sent.calls k.sent.only));
  listens = λ some free. listens_before h.on.calls k.sent.calls (h.listens some free);
}

on_at : (asked : ℕ) (a b p q s : BurstData) (n : ℕ) (buffer : List ℕ) → Working asked a b n
    → TakesThenHandsOn asked b (Ok None) buffer p → Worked p q (Paused ∷ []) → SentOn q s → Working asked a s (n + 1)
on_at asked a b p q s n buffer h v pause sent =
    sent_then asked a q s (n + 1) (paused_then asked a b v.mid q n h v.took v.listens
    (sym (ap (λ (x : BurstData). x.messages) same) ∙ none.0) (sym (ap (λ (x : BurstData). x.frames) same) ∙ none.1)
    (subst (λ x. Worked x q (Paused ∷ [])) same pause)) sent
  where
    handed : (taken : Option Datagram) × TookOut v.mid.messages v.mid.frames taken p.messages p.frames × HandsOn asked taken None buffer
    handed = (v.hands_on.0, v.hands_on.1, v.hands_on.2)

    none : (p.messages ≡ []) × (p.frames ≡ [])
    none = none_waits asked v.mid.messages v.mid.frames p.messages p.frames buffer handed

    same : p ≡ v.mid
    same = nothing_handed asked v.mid p buffer handed v.hands_on.3

-- it looked and found nothing, a pause passed, and it sent on
pub looked_on_more : (asked room : ℕ) (a b p q s : BurstData) (n : ℕ) (buffer : List ℕ) → Working asked a b n
    → room ≡ asked → TakesThenHandsOn room b (Ok None) buffer p → Worked p q (Paused ∷ []) → SentOn q s
    → Working asked a s (n + 1)
looked_on_more asked room a b p q s n buffer h size w pause sent =
    on_at asked a b p q s n buffer h (subst (λ k. TakesThenHandsOn k b (Ok None) buffer p) size w) pause sent

-- the receive ended where the system refused a send
pub looked_fails : (asked room : ℕ) (a b p q s : BurstData) (n : ℕ) (e : PortFault) (buffer last : List ℕ)
    → Working asked a b n → room ≡ asked → TakesThenHandsOn room b (Ok None) buffer p → Worked p q (Paused ∷ [])
    → SentOn q s → WorksThenHandsOn asked a (Err e) last s
looked_fails asked room a b p q s n e buffer last h size w pause sent = record {
  mid = s;
  worked_on = (looked_on_more asked room a b p q s n buffer h size w pause sent).on;
  listens = tt;
  hands_on = refl;
}

-- and what waits to be sent is less
pub looked_shorter : (asked room : ℕ) (a b p : BurstData) (n : ℕ) (buffer : List ℕ) (now then : List Datagram)
    → Working asked a b n → TakesThenHandsOn room b (Ok None) buffer p → now ≡ p.leaving → length then < length now
    → length then < length a.leaving
looked_shorter asked room a b p n buffer now then h w same shorter =
    chain (length p.leaving) (length w.mid.leaving) (length b.leaving)
    (subst (λ ds. length then < length ds) same shorter)
    (ap (λ (x : BurstData). length x.leaving) w.hands_on.3)
    (worked_shorter b w.mid w.took.calls w.took.worked) (worked_shorter a b h.on.calls h.on.worked)
  where
    chain : (p m b : ℕ) → length then < p → p ≡ m → m ≤ b → b ≤ length a.leaving → length then < length a.leaving
    chain p m b k e l f = omega arith
