-- Paths, and that there is one walk at most.
-- Serves `follow`, `found_at`, `has_walk`, `hop_at`, law `one_walk`, what `EachOnce`,
-- `LawfulMeanings`, `OneDigest` serve, and fleet_site, fleet_world.
use Rattle.std.proofs.Common.{◌≡◌, ℕ, suc, ◌+◌, ◌<◌, ◌≤◌, inl, inr, List, [], ◌∷◌, ◌++◌, length, ap, sym, ◌∙◌, refl, arith, subst, append-nil, Bor}
use Rattle.std.proofs.lemmas.List.{length-append}
use Rattle.fleet_name.specs.Name.{wire}
use Rattle.fleet_wire.specs.Record.{RecordData}
use Rattle.fleet_observe.specs.declared.reply.walk.Hop.{Hop}
use Rattle.fleet_observe.specs.declared.reply.walk.Hop.TheVariants.{Records, Alias, Bare, Fork}
use Rattle.fleet_observe.specs.RrSet.{RrSetData, IsRrSet, IsEmpty, IsOnly}
use Rattle.fleet_observe.specs.Walk.{GoesOn, Ends, IsPath, last, IsWalk, HasWalk, AreLinks}
use Rattle.fleet_observe.specs.steps.Following.{IsFork, IsHop, IsOf, IsAlias, ArePlainRecords}
use Rattle.fleet_name.proofs.Lemmas.{wire_exact}
use Rattle.fleet_observe.proofs.Spelling.{plain_alias}
use Rattle.fleet_wire.specs.declared.rtype.TheConstants.{CNAME}
use Rattle.fleet_observe.specs.declared.bounds.TheConstants.{MOST_LINKS}

-- where the walk ends it does not go on
pub ends_not_on : (s : List RecordData) (t : ℕ) (n m : List (List ℕ)) → Ends s t n
    → ¬ GoesOn s t n m
ends_not_on s t n m (inl found) on = on.without found.some.0 found.some.1
ends_not_on s t n m (inr bare) on = bare.no_alias (wire m) on.target.member

-- it goes on to one name
on_one : (s : List RecordData) (t : ℕ) (n m k : List (List ℕ)) → GoesOn s t n m → GoesOn s t n k
    → m ≡ k
on_one s t n m k a b = wire_exact m k (a.target.only (wire k) b.target.member)

-- A path is the beginning of every walk.
pub path_begins : (s : List RecordData) (t : ℕ) (n : List (List ℕ))
    (before later : List (List (List ℕ))) → IsPath s t n before → IsPath s t n later
    → Ends s t (last n later)
    → (rest : List (List (List ℕ))) × (later ≡ before ++ rest) × IsPath s t (last n before) rest
    × Ends s t (last (last n before) rest)
path_begins s t n [] later p q e = (later, refl, q, e)
path_begins s t n (m ∷ before) [] p q e = absurd (ends_not_on s t n m e p.0)
path_begins s t n (m ∷ before) (k ∷ later) p q e =
    let same = on_one s t n m k p.0 q.0 in
    let r = path_begins s t m before later p.1 (subst (λ (x : List (List ℕ)). IsPath s t x later)
    (sym same) q.1) (subst (λ (x : List (List ℕ)). Ends s t (last x later)) (sym same) e) in (
      r.0,
      ap (λ (x : List (List ℕ)). x ∷ later) (sym same) ∙ ap (λ (xs : List (List (List ℕ))). m
          ∷ xs) r.1,
      r.2,
      r.3,
    )

-- where a path ends, so does every walk
pub walk_is : (s : List RecordData) (t : ℕ) (n : List (List ℕ))
    (before later : List (List (List ℕ))) → IsPath s t n before → Ends s t (last n before)
    → IsWalk s t n later → later ≡ before
walk_is s t n before later p e w =
    let r = path_begins s t n before later p w.path w.ends in
    let nil : r.0 ≡ [] = ended (last n before) r.0 e r.2 in
    r.1 ∙ (ap (λ (xs : List (List (List ℕ))). before ++ xs) nil ∙ append-nil before)
  where
    ended : (x : List (List ℕ)) (rest : List (List (List ℕ))) → Ends s t x → IsPath s t x rest
        → rest ≡ []
    ended x [] e p = refl
    ended x (k ∷ rest) e p = absurd (ends_not_on s t x k e p.0)

-- at a fork there is no walk
pub fork_stops : (s : List RecordData) (t : ℕ) (n : List (List ℕ)) (before : List (List (List ℕ)))
    → IsPath s t n before → IsFork s t (last n before) → ¬ HasWalk s t n
fork_stops s t n before p f w =
    let r = path_begins s t n before w.0 p w.1.path w.1.ends in
    stuck (last n before) r.0 f r.2 r.3
  where
    stuck : (x : List (List ℕ)) (rest : List (List (List ℕ))) → IsFork s t x → IsPath s t x rest
        → ¬ Ends s t (last x rest)
    stuck x [] f p e = f.endless e
    stuck x (k ∷ rest) f p e = f.aimless k p.0

-- a path of more links than there may be is the beginning of no walk
pub long_stops : (s : List RecordData) (t : ℕ) (n : List (List ℕ)) (before : List (List (List ℕ)))
    → IsPath s t n before → MOST_LINKS < length before → ¬ HasWalk s t n
long_stops s t n before p long w =
    let r = path_begins s t n before w.0 p w.1.path w.1.ends in
    let k = ap length r.1 in let a = length-append before r.0 in let short = w.1.short in
    absurd (omega arith)

pub last_more : (n m : List (List ℕ)) (before : List (List (List ℕ)))
    → last n (before ++ m ∷ []) ≡ m
last_more n m [] = refl
last_more n m (k ∷ before) = last_more k m before

pub path_more : (s : List RecordData) (t : ℕ) (n m : List (List ℕ)) (before : List (List (List ℕ)))
    → IsPath s t n before → GoesOn s t (last n before) m → IsPath s t n (before ++ m ∷ [])
path_more s t n m [] p on = (on, tt)
path_more s t n m (k ∷ before) p on = (p.0, path_more s t k m before p.1 on)

-- a path from n to where the walk is now
pub record IsReached (s : List RecordData) (t : ℕ) (n : List (List ℕ)) (count : ℕ)
    (at : List (List ℕ)) : Type 0 where
  pub before : List (List (List ℕ))
  pub path : IsPath s t n before
  pub counted : length before ≡ count
  pub at_last : at ≡ last n before

pub reached_none : (s : List RecordData) (t : ℕ) (n : List (List ℕ)) → IsReached s t n 0 n
reached_none s t n = record { before = []; path = tt; counted = refl; at_last = refl }

pub reached_more : (s : List RecordData) (t : ℕ) (n : List (List ℕ)) (count : ℕ)
    (at m : List (List ℕ)) → IsReached s t n count at → GoesOn s t at m
    → IsReached s t n (count + 1) m
reached_more s t n count at m r on = record {
  before = r.before ++ m ∷ [];
  path = path_more s t n m r.before r.path (rw r.at_last at on);
  counted = rw length-append (omega (arith, r.counted));
  at_last = sym (last_more n m r.before);
}

pub reached_end : (s : List RecordData) (t : ℕ) (n : List (List ℕ)) (count : ℕ)
    (at : List (List ℕ)) → IsReached s t n count at → count ≤ MOST_LINKS → Ends s t at
    → HasWalk s t n
reached_end s t n count at r short e = (
  r.before,
  record {
    path = r.path;
    ends = rw r.at_last at e;
    short = omega (arith, r.counted);
  },
)

pub reached_fork : (s : List RecordData) (t : ℕ) (n : List (List ℕ)) (count : ℕ)
    (at : List (List ℕ)) → IsReached s t n count at → IsFork s t at → ¬ HasWalk s t n
reached_fork s t n count at r f = fork_stops s t n r.before r.path (rw r.at_last at f)

pub reached_long : (s : List RecordData) (t : ℕ) (n : List (List ℕ)) (count : ℕ)
    (at : List (List ℕ)) → IsReached s t n count at → MOST_LINKS < count → ¬ HasWalk s t n
reached_long s t n count at r long = long_stops s t n r.before r.path (omega (arith, r.counted))

-- a path from n to where the walk is now, with the links' RRsets
pub record IsLinked (s : List RecordData) (t : ℕ) (n : List (List ℕ)) (chain : List RrSetData)
    (at : List (List ℕ)) : Type 0 where
  pub later : List (List (List ℕ))
  pub path : IsPath s t n later
  pub links : AreLinks s n later chain
  pub at_last : at ≡ last n later

pub linked_none : (s : List RecordData) (t : ℕ) (n : List (List ℕ)) → IsLinked s t n [] n
linked_none s t n = record { later = []; path = tt; links = tt; at_last = refl }

links_more : (s : List RecordData) (n m : List (List ℕ)) (later : List (List (List ℕ)))
    (chain : List RrSetData) (x : RrSetData) → AreLinks s n later chain
    → IsRrSet s (last n later) CNAME x → AreLinks s n (later ++ m ∷ []) (chain ++ x ∷ [])
links_more s n m [] [] x h k = (k, tt)
links_more s n m [] (y ∷ ys) x h k = absurd h
links_more s n m (l ∷ later) [] x h k = absurd h
links_more s n m (l ∷ later) (y ∷ ys) x h k = (h.0, links_more s l m later ys x h.1 k)

pub linked_more : (s : List RecordData) (t : ℕ) (n at m : List (List ℕ)) (chain : List RrSetData)
    (x : RrSetData) → IsLinked s t n chain at → GoesOn s t at m → IsRrSet s at CNAME x
    → IsLinked s t n (chain ++ x ∷ []) m
linked_more s t n at m chain x h on is = record {
  later = h.later ++ m ∷ [];
  path = path_more s t n m h.later h.path (rw h.at_last at on);
  links = links_more s n m h.later chain x h.links (rw h.at_last at is);
  at_last = sym (last_more n m h.later);
}

pub links_length : (s : List RecordData) (n : List (List ℕ)) (later : List (List (List ℕ)))
    (chain : List RrSetData) → AreLinks s n later chain → length later ≡ length chain
links_length s n [] [] h = refl
links_length s n [] (y ∷ ys) h = absurd h
links_length s n (l ∷ later) [] h = absurd h
links_length s n (l ∷ later) (y ∷ ys) h = ap suc (links_length s l later ys h.1)

-- where there is a walk, there is room for one more link
pub linked_room : (s : List RecordData) (t : ℕ) (n at m : List (List ℕ)) (chain : List RrSetData)
    → IsLinked s t n chain at → GoesOn s t at m → HasWalk s t n → length chain < MOST_LINKS
linked_room s t n at m chain h on w =
    let p = path_more s t n m h.later h.path (rw h.at_last at on) in
    let r = path_begins s t n (h.later ++ m ∷ []) w.0 p w.1.path w.1.ends in
    let k = ap length r.1 in let a = length-append (h.later ++ m ∷ []) r.0 in
    let b = length-append h.later (m ∷ []) in let short = w.1.short in
    let c = links_length s n h.later chain h.links in
    omega arith

-- where there is a walk that does not go on, this is it
pub linked_whole : (s : List RecordData) (t : ℕ) (n at : List (List ℕ)) (chain : List RrSetData)
    → IsLinked s t n chain at → ((m : List (List ℕ)) → ¬ GoesOn s t at m) → HasWalk s t n
    → (later : List (List (List ℕ))) × IsWalk s t n later × AreLinks s n later chain
    × (at ≡ last n later)
linked_whole s t n at chain h stops w =
    let r = path_begins s t n h.later w.0 h.path w.1.path w.1.ends in
    let nil : r.0 ≡ [] = stopped (last n h.later) r.0 (λ m on. stops m (rw h.at_last on)) r.2 in
    let same : w.0 ≡ h.later = r.1 ∙ (ap (λ (xs : List (List (List ℕ))). h.later ++ xs) nil
    ∙ append-nil h.later) in
    (h.later, subst (λ (x : List (List (List ℕ))). IsWalk s t n x) same w.1, h.links, h.at_last)
  where
    stopped : (x : List (List ℕ)) (rest : List (List (List ℕ)))
        → ((m : List (List ℕ)) → ¬ GoesOn s t x m) → IsPath s t x rest → rest ≡ []
    stopped x [] f p = refl
    stopped x (k ∷ rest) f p = absurd (f k p.0)

-- a hop that is no alias does not go on
pub stops_there : {A : Type 0} (s : List RecordData) (t : ℕ) (n : List (List ℕ)) (x : Hop A)
    → IsHop s t n x → ((r : Bor RecordData) → ¬ (x ≡ Alias r)) → (m : List (List ℕ))
    → ¬ GoesOn s t n m
stops_there s t n (Records r) h out m = ends_not_on s t n m (inl h.0)
stops_there s t n Bare h out m = ends_not_on s t n m (inr h)
stops_there s t n Fork h out m = h.aimless m
stops_there s t n (Alias r) h out m = absurd (out r refl)

-- where there is no RRset of the type, a plain alias leads on to its RDATA
pub alias_is : (s : List RecordData) (t : ℕ) (n : List (List ℕ)) (r : RecordData)
    → ArePlainRecords s → IsEmpty s n t → IsOf s n CNAME r → IsOnly s n CNAME r.rdata
    → IsAlias s t n r
alias_is s t n r plain none of_set only =
    let spelled = plain_alias r.rdata (rw of_set.is_of_rrset.rtype at (plain r of_set.member).rdata) in
    record {
      of_set = of_set;
      goes = record { without = none; target = rw (← spelled.whole) only; named = spelled.named };
      spelled = spelled;
    }
