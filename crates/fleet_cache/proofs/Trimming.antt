-- The front of a key, without what a cut hides of it.
-- Serves `short::drop_hidden`, `store::drop_hidden`.
use Rattle.std.proofs.Common.{ℕ, ◌≡◌, ◌≢◌, Bool, true, false, not, List, [], ◌∷◌, Some, length, sym, ap, refl, ◌∙◌, subst, arith}
use Rattle.std.specs.Bool.{◌==◌}
use Rattle.std.specs.Ordering.{is_eq}
use Rattle.std.proofs.lemmas.Bool.Decides.{nat_tests}
use Rattle.std.specs.Map.{lookup, set_value, remove_entry}
use Rattle.std.proofs.lemmas.List.{nil_from_length}
use Rattle.fleet_observe.specs.Members.{Has}
use Rattle.fleet_observe.specs.Observation.{ObservationData}
use Rattle.fleet_observe.specs.Preference.{octets_cmp}
use Rattle.fleet_cache.specs.Front.{without_hidden}
use Rattle.fleet_cache.specs.Cut.{CutData, is_hidden}
use Rattle.fleet_cache.specs.steps.Packed.{words_of}
use Rattle.fleet_cache.specs.steps.Slots.{items_of, is_nil, IsLaid}
use Rattle.fleet_cache.specs.steps.Reclaimed.{IsCleared}
use Rattle.std.proofs.lemmas.Bool.{not-true}
use Rattle.fleet_name.proofs.Lemmas.{Has-filter}
use Rattle.fleet_cache.proofs.Slots.{in_slot, slot_of_key}
use Rattle.fleet_cache.proofs.Looked.{look_some}
use Rattle.fleet_cache.proofs.Reclaiming.{IsTrim, written, taken_out, trim_laid, look_set, key_gone}

pub some_left : (xs : List ObservationData) → length xs ≢ 0 → is_nil xs ≡ false
some_left [] e = absurd (e refl)
some_left (x ∷ xs) e = refl

pub is_zero : (n : ℕ) (b : Bool) → b ≡ (n == 0) → b ≡ true → n ≡ 0
is_zero n b is e = grind (arith, nat_tests, is, e)

-- the front was written back
module _ {K : Type 0} (octets : K → List ℕ) (q : List ℕ) (cut : CutData)
    (es new : List (K × List ObservationData)) (f g : List ObservationData)
    (laid : IsLaid octets es) (found : Some f ≡ lookup (λ k. is_eq (octets_cmp q (octets k))) es)
    (shown : g ≡ without_hidden is_hidden cut f)
    (is : new ≡ set_value (λ k. is_eq (octets_cmp q (octets k))) es g) where
  keyed : (o : ObservationData) → Has f o → words_of o ≡ q
  keyed o h = (slot_of_key octets es q f laid (sym found)).slot.one_key o h

  pub kept : length g ≢ 0 → IsTrim octets q cut es new
  kept some = subst (IsTrim octets q cut es)
      (sym (is ∙ ap (set_value (λ k. is_eq (octets_cmp q (octets k))) es) shown))
      (written octets q cut (λ k. is_eq (octets_cmp q (octets k))) es f (sym found) keyed
      (some_left (without_hidden is_hidden cut f) (λ e. some (ap length shown ∙ e))))

  pub dropped : (left : List (K × List ObservationData))
      → left ≡ remove_entry (λ k. is_eq (octets_cmp q (octets k))) new → length g ≡ 0
      → IsTrim octets q cut es left
  dropped left gone none = subst (IsTrim octets q cut es)
      (sym (gone ∙ ap (remove_entry (λ k. is_eq (octets_cmp q (octets k))))
      (is ∙ ap (set_value (λ k. is_eq (octets_cmp q (octets k))) es) shown)))
      (taken_out octets q cut (λ k. is_eq (octets_cmp q (octets k))) es f (sym found) keyed
      (nil_from_length (without_hidden is_hidden cut f) (sym (ap length shown) ∙ none)))

  pub kept_clear : length g ≢ 0 → IsCleared q cut (items_of new)
  kept_clear some o h key =
      let test = λ (k : K). is_eq (octets_cmp q (octets k)) in
      let shows = λ (x : ObservationData). not (is_hidden cut x) in
      let front = look_some octets q new (without_hidden is_hidden cut f)
      (trim_laid octets q cut es new (kept some) laid)
      (ap (lookup test) (is ∙ ap (set_value test es) shown)
      ∙ look_set test es f (without_hidden is_hidden cut f) (sym found)) in
      not-true (is_hidden cut o) (Has-filter shows f o (front.whole o h key)).1

  pub dropped_clear : (left : List (K × List ObservationData))
      → left ≡ remove_entry (λ k. is_eq (octets_cmp q (octets k))) new → length g ≡ 0
      → IsCleared q cut (items_of left)
  dropped_clear left gone none o h key =
      let whole = trim_laid octets q cut es left (dropped left gone none) laid in
      let e = in_slot left o h in
      absurd (key_gone octets q es f g laid.ascending (sym found) e.0
      (subst (λ v. Has v e.0)
      (gone ∙ ap (remove_entry (λ k. is_eq (octets_cmp q (octets k)))) is) e.1)
      (sym ((whole.slots e.0 e.1).one_key o e.2) ∙ key))
