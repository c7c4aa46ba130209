-- Which observations of a frame are made, and how far they are taken.
-- Serves `take_made`, `to_made`.
use Rattle.std.proofs.Common.{◌≡◌, ◌⊎◌, ℕ, suc, ◌+◌, ◌≤◌, List, [], ◌∷◌, ◌++◌, length, inl, inr, refl, sym, ap, ◌∙◌, subst, arith, length-append, append_assoc, Result, Ok, Err, OnErr}
use Rattle.std.proofs.lemmas.List.{append-nil, nil_from_length}
use Rattle.fleet_name.proofs.Lemmas.{has_left}
use Rattle.fleet_observe.specs.Members.{Has}
use Rattle.fleet_observe.specs.Observation.{ObservationData}
use Rattle.fleet_cache.specs.Cached.{CacheData, IsCached, IsNeedless}
use Rattle.fleet_cache.proofs.Lemmas.{HasTaken, taken_more, taken_is, taken_within, seam_at}
use Rattle.fleet_gossip.specs.Entry.{AreIn}
use Rattle.fleet_gossip.specs.Frame.{entries}
use Rattle.fleet_gossip.specs.Taken.{Takes, IsPassedOver, AnyUnheld}
use Rattle.fleet_gossip.specs.steps.Reading.{BeginsWithEntries}
use Rattle.fleet_gossip.specs.steps.Taking.{IsFirstMade, AreMade, MakesEntries, HasUnheld, TakesFirstOf}

-- the next one of those that are left goes over to those that are done
pub one_over : (done left others : List ObservationData) (o : ObservationData)
    → left ≡ o ∷ others → done ++ left ≡ (done ++ o ∷ []) ++ others
one_over done left others o e = ap (λ (v : List ObservationData). done ++ v) e
    ∙ sym (append_assoc done (o ∷ []) others)

-- what is so holds where a result is an error
pub on_err : {T E P : Type 0} (r : Result T E) → P → OnErr r P
on_err (Ok x) p = tt
on_err (Err f) p = p

has_behind : (done others : List ObservationData) (o : ObservationData) → Has (done ++ o ∷ others) o
has_behind [] others o = inl refl
has_behind (x ∷ done) others o = inr (has_behind done others o)

-- one more of those that are done
module _ (cache : CacheData) (o : ObservationData) where
  -- it need not be taken in
  pub held_more : (at : ℕ) (done : List ObservationData) (made : List (ℕ × ObservationData))
      → AreMade cache at done made → Takes cache cache (o ∷ [])
      → AreMade cache at (done ++ o ∷ []) made
  held_more at done [] known one = λ s cached.
      subst (λ (v : List ObservationData). IsCached v cache.floor cache.items)
      (sym (append_assoc done (o ∷ []) s)) (known (o ∷ s) (one s cached))
  held_more at done (first ∷ made) all one = let is = all.1 in (
    all.0 ++ o ∷ [],
    record {
      held = is.held;
      split = ap (λ (v : List ObservationData). v ++ o ∷ []) is.split
          ∙ append_assoc is.held (first.1 ∷ all.0) (o ∷ []);
      known = is.known;
      placed = is.placed;
    },
    held_more (suc first.0) all.0 made all.2 one,
  )

  -- it is made
  pub made_more : (at : ℕ) (done : List ObservationData) (made : List (ℕ × ObservationData))
      (place : ℕ) → AreMade cache at done made → place ≡ at + length done
      → AreMade cache at (done ++ o ∷ []) (made ++ (place, o) ∷ [])
  made_more at done [] place known placed = (
    [],
    record { held = done; split = refl; known = known; placed = placed },
    λ s cached. cached,
  )
  made_more at done (first ∷ made) place all placed = let is = all.1 in (
    all.0 ++ o ∷ [],
    record {
      held = is.held;
      split = ap (λ (v : List ObservationData). v ++ o ∷ []) is.split
          ∙ append_assoc is.held (first.1 ∷ all.0) (o ∷ []);
      known = is.known;
      placed = is.placed;
    },
    made_more (suc first.0) all.0 made place all.2
        (omega (
          arith,
          placed,
          is.placed,
          ap length is.split,
          length-append is.held (first.1 ∷ all.0),
        )),
  )

  -- one of them isn't passed over: this one where it is looked at, else one before it
  pub unheld_more : (done : List ObservationData) (left : ℕ) → (left ≡ 0) ⊎ AnyUnheld cache done
      → (left ≡ 0 → IsPassedOver cache o → ⊥) → AnyUnheld cache (done ++ o ∷ [])
  unheld_more done left (inl none) unheld = (o, has_behind done [] o, unheld none)
  unheld_more done left (inr some) unheld = (
    some.0,
    has_left done (o ∷ []) some.0 some.1,
    some.2,
  )

-- entries of which some are done and others are left
module _ (octets : List ℕ) (version count at : ℕ) (done left : List ObservationData)
    (lawful : AreIn version (done ++ left)) (whole : octets ≡ entries (done ++ left))
    (counted : length done ≡ at) (all : at + length left ≡ count) (cache : CacheData) where
  all_are : BeginsWithEntries octets version count (done ++ left) []
  all_are = record {
    whole = whole ∙ sym (append-nil (entries (done ++ left)));
    lawful = lawful;
    counted = omega (arith, length-append done left, counted, all);
  }

  pub finds_all : (made : List (ℕ × ObservationData)) → AreMade cache 0 done made → count ≤ at
      → MakesEntries octets version count cache made
  finds_all made found past =
      let none : left ≡ [] = nil_from_length left (omega (arith, all, past)) in
      let same : done ++ left ≡ done = ap (λ (v : List ObservationData). done ++ v) none
      ∙ append-nil done in
      record {
        list = done ++ left;
        are = all_are;
        are_made = subst (λ (v : List ObservationData). AreMade cache 0 v made) (sym same) found;
      }

  pub finds_one : (o : ObservationData) (others : List ObservationData) → left ≡ o ∷ others
      → AnyUnheld cache (done ++ o ∷ []) → HasUnheld octets version count cache
  finds_one o others next unheld = record {
    list = done ++ left;
    are = all_are;
    unheld = (
      unheld.0,
      subst (λ (v : List ObservationData). Has v unheld.0) (sym (one_over done left others o next))
          (has_left (done ++ o ∷ []) others unheld.0 unheld.1),
      unheld.2,
    );
  }

-- a cache took some of a list in, and these are left of those that were made
pub record IsUnderway (before mid : CacheData) (list : List ObservationData)
    (made : List (ℕ × ObservationData)) : Type 0 where
  pub done : List ObservationData
  pub back : List ObservationData
  pub whole : list ≡ done ++ back
  pub taken : HasTaken before mid done
  pub left : AreMade before (length done) back made

-- the next one of those
module _ (before mid : CacheData) (list : List ObservationData)
    (next : ℕ × ObservationData) (others : List (ℕ × ObservationData))
    (way : IsUnderway before mid list (next ∷ others)) where
  abbrev is : IsFirstMade before (length way.done) way.back next.0 next.1 way.left.0
  is = way.left.1

  abbrev passed : List ObservationData
  passed = way.done ++ way.left.1.held

  seam : list ≡ passed ++ next.1 ∷ way.left.0
  seam = way.whole ∙ (ap (λ (v : List ObservationData). way.done ++ v) is.split
      ∙ sym (append_assoc way.done is.held (next.1 ∷ way.left.0)))

  taken : HasTaken before mid passed
  taken = record {
    cached = λ s cached. subst (λ (v : List ObservationData). IsCached v mid.floor mid.items)
        (sym (append_assoc way.done is.held s))
        (way.taken.cached (is.held ++ s) (is.known s cached));
    floor = way.taken.floor;
  }

  placed : next.0 ≡ length passed
  placed = omega (arith, is.placed, length-append way.done is.held)

  pub stops_there : (after : CacheData) → after ≡ mid
      → (IsNeedless mid.floor mid.items next.1 → ⊥) → TakesFirstOf list before after next.0
  stops_there after same needed = record {
    within = taken_within passed way.left.0 list next.1 next.0 seam placed;
    cached = λ s cached. subst (λ (v : List ObservationData).
        IsCached (v ++ s) after.floor after.items)
        (sym (taken_is passed (next.1 ∷ way.left.0) list next.0 seam placed))
        (subst (λ (v : CacheData). IsCached (passed ++ s) v.floor v.items) (sym same)
        (taken.cached s cached));
    needed = (
      next.1,
      seam_at passed way.left.0 list next.1 next.0 seam placed,
      subst (λ (v : CacheData). IsNeedless v.floor v.items next.1 → ⊥) (sym same) needed,
    );
  }

  pub goes_on : (after : CacheData) → ((s : List ObservationData)
      → IsCached s mid.floor mid.items → IsCached (next.1 ∷ s) after.floor after.items)
      → after.floor ≡ mid.floor → IsUnderway before after list others
  goes_on after one same = record {
    done = passed ++ next.1 ∷ [];
    back = way.left.0;
    whole = seam ∙ sym (append_assoc passed (next.1 ∷ []) way.left.0);
    taken = taken_more before mid after passed next.1 taken one same;
    left = subst (λ (n : ℕ). AreMade before n way.left.0 others)
        (omega (arith, placed, length-append passed (next.1 ∷ []))) way.left.2;
  }

-- where none is left, all were taken
pub all_taken : (before mid : CacheData) (list : List ObservationData)
    → IsUnderway before mid list [] → Takes before mid list
all_taken before mid list way s cached =
    subst (λ (v : List ObservationData). IsCached v mid.floor mid.items)
    (sym (append_assoc way.done way.back s)
    ∙ ap (λ (v : List ObservationData). v ++ s) (sym way.whole))
    (way.taken.cached (way.back ++ s) (way.left s cached))
