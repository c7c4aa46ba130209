-- Frames that wait, each once for all its addresses.
-- Serves `Outbox::join_last`, `Outbox::remove_first`, `Outgoing::join`.
use Rattle.std.proofs.Common.{◌≡◌, ℕ, zero, suc, ◌+◌, ◌<◌, get_or, set, List, [], ◌∷◌, ◌++◌, length, map, drop, sym, ap, ◌∙◌, append_assoc, arith}
use Rattle.std.proofs.lemmas.List.{append-nil, map_push}
use Rattle.fleet_pending.specs.declared.addr.Addr.{Addr}
use Rattle.fleet_site.specs.socket.Waiting.{Datagram}
use Rattle.fleet_site.specs.socket.Outbox.{datagrams_of, all_datagrams}
use Rattle.fleet_site.specs.declared.outbox.Outgoing.{Outgoing}

-- a frame goes to one address more
pub one_more_address : (octets other : List ℕ) (next to : Addr) (xs : List Addr) → octets ≡ other
    → ◌≡◌ {A = List Datagram} ((next, octets) ∷ map (λ a. (a, octets)) (xs ++ to ∷ []))
    (((next, octets) ∷ map (λ a. (a, octets)) xs) ++ (to, other) ∷ [])
one_more_address octets other next to xs same =
    ap (λ ds. (next, octets) ∷ ds) (map_push (λ a. (a, octets)) xs to)
    ∙ ap (λ o. ((next, octets) ∷ map (λ a. (a, octets)) xs) ++ (to, o) ∷ []) same

-- the last frame goes to one address more
pub last_joined : {A : Type 0} (fs : List (Outgoing A)) (n : ℕ) (f g : Outgoing A) (d : Datagram)
    → n + 1 ≡ length fs → f ≡ get_or fs n f → datagrams_of g ≡ datagrams_of f ++ d ∷ []
    → all_datagrams (set fs n g) ≡ all_datagrams fs ++ d ∷ []
last_joined [] n f g d long there joins = absurd (omega (arith, long))
last_joined (x ∷ []) zero f g d long there joins =
    append-nil (datagrams_of g) ∙ joins ∙ ap (λ y. datagrams_of y ++ d ∷ []) there
    ∙ ap (λ ds. ds ++ d ∷ []) (sym (append-nil (datagrams_of x)))
last_joined (x ∷ []) (suc n) f g d long there joins = absurd (omega (arith, long))
last_joined (x ∷ y ∷ fs) zero f g d long there joins = absurd (omega (arith, long))
last_joined (x ∷ y ∷ fs) (suc n) f g d long there joins =
    ap (λ ds. datagrams_of x ++ ds) (last_joined (y ∷ fs) n f g d (omega (arith, long)) there joins)
    ∙ sym (append_assoc (datagrams_of x) (all_datagrams (y ∷ fs)) (d ∷ []))

-- the first datagram is that of the first frame
pub first_is : {A : Type 0} (fs : List (Outgoing A)) (f : Outgoing A) → 0 < length fs → f ≡ get_or fs 0 f
    → all_datagrams fs ≡ (f.next, f.octets) ∷ drop 1 (all_datagrams fs)
first_is [] f some there = absurd (omega (arith, some))
first_is (x ∷ fs) f some there = ap (λ y. (y.next, y.octets) ∷ drop 1 (all_datagrams (x ∷ fs))) (sym there)

-- the first frame goes on
pub first_advanced : {A : Type 0} (fs : List (Outgoing A)) (f g : Outgoing A) → 0 < length fs → f ≡ get_or fs 0 f
    → datagrams_of f ≡ (f.next, f.octets) ∷ datagrams_of g
    → all_datagrams (set fs 0 g) ≡ drop 1 (all_datagrams fs)
first_advanced [] f g some there goes = absurd (omega (arith, some))
first_advanced (x ∷ fs) f g some there goes =
    ap (λ ds. drop 1 (ds ++ all_datagrams fs)) (sym goes) ∙ ap (λ y. drop 1 (datagrams_of y ++ all_datagrams fs)) there

-- the first frame is out
pub first_out : {A : Type 0} (fs gs : List (Outgoing A)) (f g : Outgoing A) → 0 < length fs → f ≡ get_or fs 0 f
    → datagrams_of f ≡ (f.next, f.octets) ∷ [] → set fs 0 g ≡ g ∷ gs
    → all_datagrams gs ≡ drop 1 (all_datagrams fs)
first_out [] gs f g some there goes rest = absurd (omega (arith, some))
first_out (x ∷ fs) gs f g some there goes rest =
    let same : gs ≡ fs = (let e : g ∷ fs ≡ g ∷ gs = rest in cc) in
    ap all_datagrams same ∙ ap (λ ds. drop 1 (ds ++ all_datagrams fs)) (sym goes)
    ∙ ap (λ y. drop 1 (datagrams_of y ++ all_datagrams fs)) there
