-- What is live at a name, by the latest flush above it.
-- Serves `preferred_above`, `cut_at`, `decider`, `flush_at`.
use Rattle.std.proofs.Common.{ℕ, ◌≡◌, ◌≤◌, Bool, true, false, not, nat_le, List, inl, inr, Option, Some, None, refl, sym, ap, ◌∙◌, subst, arith}
use mathlib.Core.Bool.{false≢true}
use Rattle.std.specs.declared.cmp.Ordering.{Ordering}
use Rattle.std.specs.declared.cmp.Ordering.TheVariants.{Less, Equal, Greater}
use Rattle.std.specs.Ordering.{nat_cmp, ordering_then}
use Rattle.std.proofs.lemmas.Cmp.{nat_cmp_total, tied_itself, ranked}
use Rattle.std.proofs.lemmas.Bool.{cases_Bool, and_parts, and_from, or_left, or_right}
use Rattle.std.proofs.lemmas.Bool.Decides.{nat_tests}
use Rattle.fleet_name.specs.Name.{IsUnder}
use Rattle.fleet_observe.specs.declared.observation.kind.Kind.TheVariants.{Flush}
use Rattle.fleet_observe.specs.Observation.{ObservationData, IsObservation, AreObservations}
use Rattle.fleet_cache.specs.Void.{IsVoid, is_flush, is_void}
use Rattle.fleet_cache.specs.Live.{has_ended, lasts, is_live}
use Rattle.fleet_cache.specs.Cut.{CutData, is_flushed, is_hidden}
use Rattle.fleet_cache.specs.steps.CutAt.{stamp_of, ShowsLiving, IsCutAt}
use Rattle.fleet_cache.specs.steps.Best.{IsBest, IsAbove}
use Rattle.fleet_cache.proofs.Best.{AtLeast}
use Rattle.fleet_cache.proofs.Beats.{live_to}
use Rattle.fleet_cache.proofs.Holdings.{gone_ended, gone_void}
use Rattle.fleet_cache.proofs.Voids.{other_to, other_from, void_from, void_to, void_outlived}

stamps_first : (a : Ordering) (n m : ℕ) (rest : Ordering) → a ≡ Equal
    → ordering_then a (ordering_then (nat_cmp n m) rest) ≡ Greater → m ≤ n
stamps_first a n m rest tied e = by_cases (nat_cmp n m) refl (rw tied at e)
  where
    by_cases : (o : Ordering) → nat_cmp n m ≡ o → ordering_then (nat_cmp n m) rest ≡ Greater
        → m ≤ n
    by_cases Less is f = let g : Less ≡ Greater = rw is at f in absurd (cc)
    by_cases Equal is f = let same : n ≡ m = ranked n m Equal (sym is) in omega (arith, same)
    by_cases Greater is f = let less = ranked n m Greater (sym is) in omega (arith, less)

-- of two flushes, the preferred one is stamped no earlier
later_flush : (x y : ObservationData) → IsObservation x → IsObservation y → x.kind ≡ Flush
    → y.kind ≡ Flush → AtLeast x y → y.stamp ≤ x.stamp
later_flush x y lx ly kx ky (inr same) = let e = ap (λ (o : ObservationData). o.stamp) same
    in omega (arith, e)
later_flush x y lx ly kx ky (inl more) =
    let ranks : x.rank ≡ y.rank = (lx.flush kx).rank ∙ sym (ly.flush ky).rank in
    stamps_first (nat_cmp x.rank y.rank) x.stamp y.stamp _
    (ap (λ r. nat_cmp r y.rank) ranks ∙ tied_itself nat_cmp_total y.rank) more

module _ (t : ℕ) (items : List ObservationData) (n : List (List ℕ))
    (lawful : AreObservations items) (o : ObservationData) (one : IsObservation o)
    (named : o.name ≡ n) where
  flushed_from : (best : Option ObservationData) → IsBest (IsAbove (lasts t) Flush n) items best
      → is_flushed (stamp_of best) o ≡ true → IsVoid items o
  flushed_from None best e = absurd (false≢true e)
  flushed_from (Some x) best e =
      let p = and_parts (not (is_flush o.kind)) (nat_le o.stamp x.stamp) e in
      let later : o.stamp ≤ x.stamp = grind (arith, nat_tests, p.1) in (
        x,
        best.0,
        record {
          flush = best.1.of_kind;
          other = other_from o.kind p.0;
          under = subst (λ v. IsUnder v x.name) (sym named) best.1.under;
          later = later;
        },
      )

  flushed_to : has_ended t o ≡ false → (best : Option ObservationData)
      → IsBest (IsAbove (lasts t) Flush n) items best → IsVoid items o
      → is_flushed (stamp_of best) o ≡ true
  flushed_to still best is v = by_cases best is (record {
    live = ap not seen;
    under = subst (λ w. IsUnder w v.0.name) named v.2.under;
    of_kind = v.2.flush;
    of_type = ((lawful v.0 v.1).flush v.2.flush).untyped;
  })
    where
      seen : has_ended t v.0 ≡ false
      seen = let longer = void_outlived v.0 o (lawful v.0 v.1) one v.2
          in grind (arith, nat_tests, longer, still)

      by_cases : (b : Option ObservationData) → IsBest (IsAbove (lasts t) Flush n) items b
          → IsAbove (lasts t) Flush n v.0 → is_flushed (stamp_of b) o ≡ true
      by_cases None none above = absurd (none v.0 v.1 above)
      by_cases (Some x) top above =
          let least = top.2 v.0 v.1 above in
          let after = later_flush x v.0 (lawful x top.0) (lawful v.0 v.1) top.1.of_kind v.2.flush
          least in
          let later = v.2.later in
          and_from (not (is_flush o.kind)) (nat_le o.stamp x.stamp) (other_to o.kind v.2.other)
          (grind (arith, nat_tests, after, later))

  cut_decides : (best : Option ObservationData) → IsBest (IsAbove (lasts t) Flush n) items best
      → is_hidden (record { moment = t; flushed = stamp_of best }) o ≡ not (is_live items t o)
  cut_decides best is = elim (cases_Bool (has_ended t o)) [
    | inl end ↦ or_right (is_flushed (stamp_of best) o) (has_ended t o) end
        ∙ sym (ap not (gone_ended items t o end))
    | inr still ↦ elim (cases_Bool (is_flushed (stamp_of best) o)) [
      | inl yea ↦ or_left (is_flushed (stamp_of best) o) (has_ended t o) yea
          ∙ sym (ap not (gone_void items t o (void_to items o (flushed_from best is yea))))
      | inr nay ↦ rw (nay, still) (sym (ap not (live_to items t o still
          (elim (cases_Bool (is_void items o)) [
            | inr spared ↦ spared
            | inl void ↦ absurd (false≢true (sym nay
                ∙ flushed_to still best is (void_from items o void)))
          ]))))
    ]
  ]

-- the latest flush above a name decides what is live there
pub cut_of_flush : (t : ℕ) (items : List ObservationData) (n : List (List ℕ))
    (best : Option ObservationData) → AreObservations items
    → IsBest (IsAbove (lasts t) Flush n) items best
    → IsCutAt items t n (record { moment = t; flushed = stamp_of best })
cut_of_flush t items n best lawful is o one named = cut_decides t items n lawful o one named best is

-- what is not shown
twice : (b : Bool) → b ≡ not (not b)
twice true = refl
twice false = refl

-- a cut at a moment shows what has not ended
pub moment_shows : (t : ℕ) (items : List ObservationData) (n : List (List ℕ)) (cut : CutData)
    → cut ≡ record { moment = t; flushed = None } → ShowsLiving (lasts t) items n cut
moment_shows t items n cut is o there named = ap (λ (k : CutData). is_hidden k o) is
    ∙ twice (has_ended t o)

-- and the cut of the latest flush what is live
pub flush_shows : (t : ℕ) (items : List ObservationData) (n : List (List ℕ))
    (best : Option ObservationData) (cut : CutData) → AreObservations items
    → cut ≡ record { moment = t; flushed = stamp_of best }
    → IsBest (IsAbove (lasts t) Flush n) items best → ShowsLiving (is_live items t) items n cut
flush_shows t items n best cut lawful is top o there named =
    ap (λ (k : CutData). is_hidden k o) is
    ∙ cut_decides t items n lawful o (lawful o there) named best top
