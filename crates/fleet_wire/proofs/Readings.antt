-- A place of a message has one reading, or one first fault.
-- Serves `name_end`, `spelling_at`, `run_at`, `question_at`, law `one_name`, what `FirstFaults`,
-- `Parts`, `PlainNames`, `ReadPlainQuery`, `Records` serve, and fleet_site, fleet_world.
use Rattle.std.proofs.Common.{◌≡◌, ℕ, ◌+◌, ◌<◌, ◌≤◌, List, [], ◌∷◌, ◌++◌, length, refl, sym, ap, ◌∙◌, subst, arith, length-append, append_assoc, Option}
use Rattle.std.proofs.lemmas.List.{length-map, map-append, append-nil}
use Rattle.std.specs.Option.{unwrap_or}
use Rattle.fleet_name.specs.declared.bounds.TheConstants.{LONGEST_NAME}
use Rattle.fleet_name.proofs.Lemmas.{labels_of-wire_any, any_case-from_lower, named_push, label_lower}
use Rattle.std.proofs.lemmas.Grind.{flat_map-append}
use Rattle.std.specs.List.{flat_map}
use Rattle.std.specs.Char.{to_ascii_lowercase}
use Rattle.fleet_name.specs.Name.{label_octets, wire, lower, lower_all, labels_of, IsName, IsSpelling}
use Rattle.fleet_wire.specs.NameAt.{LabelAt, EndAt, PointerAt, NameAt, ends, goes_on, points}
use Rattle.fleet_wire.specs.Fault.{FaultAt, Fails, here, later, beyond}
use Rattle.fleet_wire.specs.declared.fault.ReadFault.{ReadFault}
use Rattle.fleet_wire.specs.declared.fault.ReadFault.TheVariants.{OutOfMemory}
use Rattle.fleet_wire.proofs.Faults.{fault_or_end, fault_or_label, fault_or_pointer, no_memory_here}

-- the octets of a name's labels
abbrev pub octets : List (List ℕ) → ℕ
octets n = length (flat_map label_octets n)

pub octets_first : (label : List ℕ) (rest n : List (List ℕ)) → n ≡ label ∷ rest
    → octets n ≡ length label + 1 + octets rest
octets_first label rest n e =
    ap octets e ∙ rw (length-append (label_octets label) (flat_map label_octets rest)) (omega arith)

pub label_same : (m : List ℕ) (p : ℕ) (a b : List ℕ) → LabelAt m p a → LabelAt m p b → a ≡ b
label_same m p a b one two =
    let n : length a ≡ length b = sym one.counted ∙ two.counted in
    one.octets ∙ (rw n refl ∙ sym two.octets)

-- where a fault shows, no name of so few octets is read
none_here : (m : List ℕ) (p s k : ℕ) (f : ReadFault) (n : List (List ℕ)) (e : ℕ) → FaultAt m p s k f
    → NameAt m s p n e → k + octets n ≤ LONGEST_NAME → ⊥
none_here m p s k f n e fault (ends at is past) room = fault_or_end m p s k f fault at
none_here m p s k f n e fault (goes_on label rest at r is) room =
    fault_or_label m p s k f label fault at (omega (arith, octets_first label rest n is))
none_here m p s k f n e fault (points q past at lt r is) room =
    fault_or_pointer m p s k f q fault at lt

-- what fails on the way is no name of so few octets
pub none_read : (m : List ℕ) (p s k : ℕ) (f : ReadFault) (n : List (List ℕ)) (e : ℕ)
    → Fails m p s k f → NameAt m s p n e → k + octets n ≤ LONGEST_NAME → ⊥
none_read m p s k f n e (here fault) r room = none_here m p s k f n e fault r room
none_read m p s k f n e (later label at short rest) (ends ended is past) room =
    omega (arith, at, ended)
none_read m p s k f n e (later label at short more) (goes_on l rest at' r is) room =
    let same = label_same m p l label at' at in
    none_read m (p + 1 + length label) s (k + length label + 1) f rest e more
    (subst (λ (x : List ℕ). NameAt m s (p + 1 + length x) rest e) same r)
    (omega (arith, octets_first l rest n is, ap length same))
none_read m p s k f n e (later label at short more) (points q past at' lt r is) room =
    omega (arith, at, at')
none_read m p s k f n e (beyond q at lt more) (ends ended is past) room = omega (arith, at, ended)
none_read m p s k f n e (beyond q at lt more) (goes_on l rest at' r is) room =
    omega (arith, at, at')
none_read m p s k f n e (beyond q at lt more) (points q' past at' lt' r is) room =
    let same : q' ≡ q = at'.target ∙ sym at.target in
    none_read m q q k f n past more (subst (λ (x : ℕ). NameAt m x x n past) same r) room

-- out of memory is no fault of a name
pub no_memory : (m : List ℕ) (p s k : ℕ) (f : ReadFault) → Fails m p s k f → f ≡ OutOfMemory → ⊥
no_memory m p s k f (here h) e = no_memory_here m p s k f h e
no_memory m p s k f (later label at room more) e =
    no_memory m (p + 1 + length label) s (k + length label + 1) f more e
no_memory m p s k f (beyond q at back more) e = no_memory m q q k f more e

-- lower case changes no length
length-lower_all : (n : List (List ℕ)) → octets (lower_all n) ≡ octets n
length-lower_all [] = refl
length-lower_all (l ∷ n) =
    octets_first (lower l) (lower_all n) (lower_all (l ∷ n)) refl
    ∙ (rw (length-map, length-lower_all n) (sym (octets_first l n (l ∷ n) refl)))

pub octets_fit : (n : List (List ℕ)) → IsName (lower_all n) → octets n + 1 ≤ LONGEST_NAME
octets_fit n named =
    omega (
      arith,
      named.fits,
      length-append (flat_map label_octets (lower_all n)) (0 ∷ []),
      length-lower_all n,
    )

-- where the reading fails, there is no name
pub none_from_fails : (m : List ℕ) (p : ℕ) (f : ReadFault) (n : List (List ℕ)) (e : ℕ)
    → Fails m p p 1 f → IsName (lower_all n) → NameAt m p p n e → ⊥
none_from_fails m p f n e fails named r =
    none_read m p p 1 f n e fails r (omega (arith, octets_fit n named))

-- the labels of what was read, and a zero octet
pub labels_read : (before : List (List ℕ)) (items new : List ℕ)
    → items ≡ flat_map label_octets before
    → IsName (lower_all before) → new ≡ items ++ 0 ∷ [] → labels_of new ≡ before
labels_read before items new is named e =
    let whole : new ≡ wire before = e ∙ ap (λ (x : List ℕ). x ++ 0 ∷ []) is in
    ap labels_of whole ∙ labels_of-wire_any before (any_case-from_lower before named.labels)

pub spelling_read : (before : List (List ℕ)) (items new : List ℕ)
    → items ≡ flat_map label_octets before
    → IsName (lower_all before) → new ≡ items ++ 0 ∷ [] → IsSpelling new
spelling_read before items new is named e =
    let l = labels_read before items new is named e in
    record { whole = rw l (e ∙ ap (λ (x : List ℕ). x ++ 0 ∷ []) is); lawful = rw l named }

-- The labels read so far, and what is read from here on.
module _ (m : List ℕ) (p : ℕ) (before : List (List ℕ)) (items : List ℕ) (at s : ℕ) (past : Option ℕ)
    (is : items ≡ flat_map label_octets before) (named : IsName (lower_all before))
    (reads : (n : List (List ℕ)) (e : ℕ) → NameAt m s at n e
    → NameAt m p p (before ++ n) (unwrap_or past e))
    (fails : (f : ReadFault) → Fails m at s (length items + 1) f → Fails m p p 1 f) where
  pub read_whole : EndAt m at → NameAt m p p before (unwrap_or past (at + 1))
  read_whole ended = rw append-nil at (reads [] (at + 1) (ends ended refl refl))

  module _ (label new : List ℕ) (found : LabelAt m at label) (e : new ≡ items ++ label_octets label)
      (room : length items + 1 + length label + 1 ≤ LONGEST_NAME) where
    pub more_octets : new ≡ flat_map label_octets (before ++ label ∷ [])
    more_octets = e ∙ rw (is, flat_map-append, append-nil) refl

    pub more_named : IsName (lower_all (before ++ label ∷ []))
    more_named =
        let n = ap length is in
        let k = length-lower_all before in
        let w = length-append (flat_map label_octets (lower_all before)) (0 ∷ []) in
        let l = length-map label to_ascii_lowercase in
        rw (map-append lower before (label ∷ []))
        (named_push (lower_all before) (lower label) named
        (label_lower label found.some found.short) (omega (arith, n, k, w, l)))

    pub more_room : length new ≤ 254
    more_room = rw (e, length-append items (label_octets label)) (omega arith)

    pub reads_more : (n : List (List ℕ)) (e' : ℕ) → NameAt m s (at + (1 + length label)) n e'
        → NameAt m p p ((before ++ label ∷ []) ++ n) (unwrap_or past e')
    reads_more n e' r =
        let here_is : at + (1 + length label) ≡ at + 1 + length label = omega arith in
        rw append_assoc (reads (label ∷ n) e' (goes_on label n found (rw here_is at r) refl))

    pub fails_more : (f : ReadFault) → Fails m (at + (1 + length label)) s (length new + 1) f
        → Fails m p p 1 f
    fails_more f h =
        let here_is : at + (1 + length label) ≡ at + 1 + length label = omega arith in
        let used : length new + 1 ≡ length items + 1 + length label + 1 =
        rw (e, length-append items (label_octets label)) (omega arith) in
        fails f (later label found room (rw (here_is, used) at h))

  module _ (q : ℕ) (found : PointerAt m at q) (back : q < s) where
    pub reads_on : (n : List (List ℕ)) (e : ℕ) → NameAt m q q n e
        → NameAt m p p (before ++ n) (unwrap_or past (at + 2))
    reads_on n e r = reads n (at + 2) (points q e found back r refl)

    pub fails_on : (f : ReadFault) → Fails m q q (length items + 1) f → Fails m p p 1 f
    fails_on f h = fails f (beyond q found back h)

-- A place has one reading.
pub one_reading : (m : List ℕ) (p s : ℕ) (a b : List (List ℕ)) (x y : ℕ) → NameAt m s p a x
    → NameAt m s p b y → (a ≡ b) × (x ≡ y)
one_reading m p s a b x y (ends one is past) (ends two is' past') = (is ∙ sym is', past ∙ sym past')
one_reading m p s a b x y (ends one is past) (goes_on l rest two r is') =
    absurd (omega (arith, one, two))
one_reading m p s a b x y (ends one is past) (points q e two lt r is') =
    absurd (omega (arith, one, two))
one_reading m p s a b x y (goes_on l rest one r is) (ends two is' past') =
    absurd (omega (arith, one, two))
one_reading m p s a b x y (goes_on l rest one r is) (goes_on l' rest' two r' is') =
    let same = label_same m p l' l two one in
    let both =
    one_reading m (p + 1 + length l) s rest rest' x y r
    (subst (λ (z : List ℕ). NameAt m s (p + 1 + length z) rest' y) same r') in (
      is ∙ (ap (λ (z : List ℕ). z ∷ rest) (sym same)
          ∙ (ap (λ (z : List (List ℕ)). l' ∷ z) both.0 ∙ sym is')),
      both.1,
    )
one_reading m p s a b x y (goes_on l rest one r is) (points q e two lt r' is') =
    absurd (omega (arith, one, two))
one_reading m p s a b x y (points q e one lt r is) (ends two is' past') =
    absurd (omega (arith, one, two))
one_reading m p s a b x y (points q e one lt r is) (goes_on l rest two r' is') =
    absurd (omega (arith, one, two))
one_reading m p s a b x y (points q e one lt r is) (points q' e' two lt' r' is') =
    let same : q' ≡ q = two.target ∙ sym one.target in
    let both = one_reading m q q a b e e' r (subst (λ (z : ℕ). NameAt m z z b e') same r') in
    (both.0, is ∙ sym is')

-- what is read lies in the message
pub ends_within : (m : List ℕ) (p s : ℕ) (n : List (List ℕ)) (e : ℕ) → NameAt m s p n e
    → e ≤ length m
ends_within m p s n e (ends at is past) = omega (arith, at)
ends_within m p s n e (goes_on l rest at r is) = ends_within m (p + 1 + length l) s rest e r
ends_within m p s n e (points q past at lt r is) = omega (arith, at)
