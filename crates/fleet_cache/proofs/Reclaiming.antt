-- What dropping what a cut hides of one key does to the map.
-- Serves `short::drop_hidden`, `store::drop_hidden`.
use Rattle.std.proofs.Common.{ℕ, length-append, arith, ◌≡◌, Bool, true, false, not, List, [], ◌∷◌, ◌++◌, ◌⊎◌, inl, inr, Some, sym, ap, refl, ◌∙◌, subst}
use Rattle.std.specs.List.{filter}
use Rattle.std.specs.Map.{lookup, set_value, remove_entry}
use Rattle.std.proofs.lemmas.List.Elements.{filter-append}
use Rattle.std.specs.declared.cmp.Ordering.{Ordering}
use Rattle.fleet_observe.specs.Members.{Has}
use Rattle.fleet_observe.specs.Observation.{ObservationData}
use Rattle.fleet_cache.specs.Front.{IsDescending}
use Rattle.fleet_cache.specs.Cut.{CutData, is_hidden}
use Rattle.fleet_cache.specs.steps.Packed.{words_of}
use Rattle.fleet_cache.specs.steps.Slots.{items_of, is_nil, IsSlot, IsLaid}
use Rattle.fleet_cache.specs.steps.Reclaimed.{IsThinned}
use Rattle.fleet_cache.proofs.Holdings.{live_shorter}
use Rattle.fleet_cache.specs.steps.Orders.{cut_laws}
use Rattle.fleet_observe.specs.Preference.{octets_cmp}
use Rattle.std.proofs.lemmas.Bool.{cases_Bool}
use mathlib.Core.Bool.{false≢true}
use Rattle.std.specs.Ordering.{is_eq}
use Rattle.std.specs.declared.cmp.Ordering.TheVariants.{Equal, Greater}
use Rattle.std.specs.Cmp.{Equal-is}
use Rattle.std.proofs.lemmas.Cmp.{tied_itself, nat_list_cmp_total}
use Rattle.fleet_front.proofs.Lemmas.{front_itself, front_shown}
use Rattle.fleet_name.proofs.Lemmas.{Has-filter, has_left, has_right, has_either}

pub thinned_none : (lives : ObservationData → Bool) (items : List ObservationData)
    → IsThinned lives items items
thinned_none lives items = record { live_still = refl; of_items = λ x h. h; size = omega arith }

-- what is hidden does not live
shown_live : (lives hid : ObservationData → Bool) (s : List ObservationData)
    → ((x : ObservationData) → Has s x → hid x ≡ not (lives x))
    → filter lives (filter (λ x. not (hid x)) s) ≡ filter lives s
shown_live lives hid [] known = refl
shown_live lives hid (x ∷ s) known = elim (cases_Bool (lives x)) [
  | inl e ↦ let f : hid x ≡ false = known x (inl refl) ∙ ap not e in
      rw (f, e) (ap (λ v. x ∷ v) (shown_live lives hid s (λ y h. known y (inr h))))
  | inr e ↦ let f : hid x ≡ true = known x (inl refl) ∙ ap not e in
      rw (f, e) (shown_live lives hid s (λ y h. known y (inr h)))
]

module _ {K : Type 0} (octets : K → List ℕ) (words : List ℕ) (cut : CutData) where
  abbrev Slot : Type 0
  Slot = K × List ObservationData

  abbrev Shows : ObservationData → Bool
  Shows o = not (is_hidden cut o)

  -- what lives of a front of the key is what the cut shows
  abbrev Decides : (ObservationData → Bool) → List ObservationData → Type 0
  Decides lives items = (o : ObservationData) → Has items o → words_of o ≡ words
      → is_hidden cut o ≡ not (lives o)

  -- the slot d is e, or what is left of it
  pub record IsRest (e d : Slot) : Type 0 where
    pub key : d.0 ≡ e.0
    pub thinned : (lives : ObservationData → Bool) → Decides lives e.1 → IsThinned lives e.1 d.1
    pub slot : IsSlot (octets e.0) e.1 → IsSlot (octets d.0) d.1

  -- slots, some of which have lost observations, without those that lost all
  abbrev pub IsTrim : List Slot → List Slot → Type 0
  IsTrim [] new = new ≡ []
  IsTrim (e ∷ es) new = (n : List Slot) × IsTrim es n
      × (((d : Slot) × (new ≡ d ∷ n) × IsRest e d)
      ⊎ ((new ≡ n) × (filter Shows e.1 ≡ []) × ((o : ObservationData) → Has e.1 o → words_of o ≡ words)))

  same : (e : Slot) → IsRest e e
  same e = record { key = refl; thinned = λ lives known. thinned_none lives e.1; slot = λ s. s }

  part_thinned : (f : List ObservationData)
      → ((o : ObservationData) → Has f o → words_of o ≡ words) → (lives : ObservationData → Bool)
      → Decides lives f → IsThinned lives f (filter Shows f)
  part_thinned f keyed lives known = record {
    live_still = shown_live lives (is_hidden cut) f (λ x h. known x h (keyed x h));
    of_items = λ x h. (Has-filter Shows f x h).0;
    size = live_shorter Shows f;
  }

  part : (e : Slot) → ((o : ObservationData) → Has e.1 o → words_of o ≡ words)
      → is_nil (filter Shows e.1) ≡ false → IsRest e (e.0, filter Shows e.1)
  part e keyed left = record {
    key = refl;
    thinned = part_thinned e.1 keyed;
    slot = λ s. record {
      some = left;
      one_key = λ x h. s.one_key x (Has-filter Shows e.1 x h).0;
      packable = λ x h. s.packable x (Has-filter Shows e.1 x h).0;
      own_front = front_itself cut_laws (filter Shows e.1) (filter Shows e.1)
          (front_shown cut_laws cut e.1 e.1 s.own_front);
    };
  }

  pub untouched : (es : List Slot) → IsTrim es es
  untouched [] = refl
  untouched (e ∷ es) = (es, untouched es, inl (e, refl, same e))

  -- a front was written back without what is hidden of it
  pub written : (test : K → Bool) (es : List Slot) (f : List ObservationData)
      → lookup test es ≡ Some f → ((o : ObservationData) → Has f o → words_of o ≡ words)
      → is_nil (filter Shows f) ≡ false → IsTrim es (set_value test es (filter Shows f))
  written test [] f found keyed left = absurd (cc)
  written test (e ∷ es) f found keyed left = elim (cases_Bool (test e.0)) [
    | inl yea ↦
        let value : Some e.1 ≡ Some f = rw yea at found in
        let is : e.1 ≡ f = cc in
        rw yea (
          es,
          untouched es,
          inl (
            (e.0, filter Shows f),
            refl,
            subst (λ v. IsRest e (e.0, filter Shows v)) is
                (part e (λ o h. keyed o (subst (λ v. Has v o) is h))
                (ap (λ v. is_nil (filter Shows v)) is ∙ left)),
          ),
        )
    | inr nay ↦ rw nay (
      set_value test es (filter Shows f),
      written test es f (rw nay at found) keyed left,
      inl (e, refl, same e),
    )
  ]

  -- a front without items was taken out
  pub taken_out : (test : K → Bool) (es : List Slot) (f : List ObservationData)
      → lookup test es ≡ Some f → ((o : ObservationData) → Has f o → words_of o ≡ words)
      → filter Shows f ≡ []
      → IsTrim es (remove_entry test (set_value test es (filter Shows f)))
  taken_out test [] f found keyed none = absurd (cc)
  taken_out test (e ∷ es) f found keyed none = elim (cases_Bool (test e.0)) [
    | inl yea ↦
        let value : Some e.1 ≡ Some f = rw yea at found in
        let is : e.1 ≡ f = cc in
        rw (yea, yea) (
          es,
          untouched es,
          inr (
            refl,
            ap (filter Shows) is ∙ none,
            λ o h. keyed o (subst (λ v. Has v o) is h),
          ),
        )
    | inr nay ↦ rw (nay, nay) (
      remove_entry test (set_value test es (filter Shows f)),
      taken_out test es f (rw nay at found) keyed none,
      inl (e, refl, same e),
    )
  ]

  -- each slot that is left was one
  slot_from : (es new : List Slot) → IsTrim es new → (d : Slot) → Has new d → (e : Slot) × Has es e
      × IsRest e d
  slot_from [] new t d h = absurd (subst (λ v. Has v d) t h)
  slot_from (e ∷ es) new t d h = elim t.2 [
    | inl kept ↦ elim (subst (λ v. Has v d) kept.1 h) [
      | inl here ↦ (e, inl refl, subst (IsRest e) here kept.2)
      | inr far ↦ let s = slot_from es t.0 t.1 d far in (s.0, inr s.1, s.2)
    ]
    | inr gone ↦ let s = slot_from es t.0 t.1 d (subst (λ v. Has v d) gone.0 h)
        in (s.0, inr s.1, s.2)
  ]

  abbrev by_key : Slot → Slot → Ordering
  by_key a b = octets_cmp (octets b.0) (octets a.0)

  ascends : (es new : List Slot) → IsTrim es new → IsDescending by_key es → IsDescending by_key new
  ascends [] new t a = subst (IsDescending by_key) (sym t) tt
  ascends (e ∷ es) new t a = elim t.2 [
    | inl kept ↦ subst (IsDescending by_key) (sym kept.1) (
      (λ c h. let s = slot_from es t.0 t.1 c h in ap (λ v. octets_cmp (octets v) (octets kept.0.0))
          s.2.key ∙ (ap (λ v. octets_cmp (octets s.0.0) (octets v)) kept.2.key ∙ a.0 s.0 s.1)),
      ascends es t.0 t.1 a.1,
    )
    | inr gone ↦ subst (IsDescending by_key) (sym gone.0) (ascends es t.0 t.1 a.1)
  ]

  pub trim_laid : (es new : List Slot) → IsTrim es new → IsLaid octets es → IsLaid octets new
  trim_laid es new t laid = record {
    slots = λ d h. let s = slot_from es new t d h in s.2.slot (laid.slots s.0 s.1);
    ascending = ascends es new t laid.ascending;
  }

  -- lists one after the other
  both_thinned : (lives : ObservationData → Bool) (a b c d : List ObservationData)
      → IsThinned lives a b → IsThinned lives c d → IsThinned lives (a ++ c) (b ++ d)
  both_thinned lives a b c d s t = record {
    live_still = filter-append lives b d ∙ (ap (λ v. v ++ filter lives d) s.live_still
        ∙ (ap (λ v. filter lives a ++ v) t.live_still ∙ sym (filter-append lives a c)));
    of_items = λ x h. elim (has_either b d x h) [
      | inl l ↦ has_left a c x (s.of_items x l)
      | inr r ↦
          has_right a c x (t.of_items x r)
    ];
    size = omega (arith, s.size, t.size, length-append a c, length-append b d);
  }

  pub trim_thinned : (es new : List Slot) → IsTrim es new → (lives : ObservationData → Bool)
      → Decides lives (items_of es) → IsThinned lives (items_of es) (items_of new)
  trim_thinned [] new t lives known = subst (λ v. IsThinned lives [] (items_of v)) (sym t)
      (thinned_none lives [])
  trim_thinned (e ∷ es) new t lives known =
      let first : Decides lives e.1 = λ o h. known o (has_left e.1 (items_of es) o h) in
      let after : Decides lives (items_of es) = λ o h. known o (has_right e.1 (items_of es) o h) in
      elim t.2 [
        | inl kept ↦ subst (λ v. IsThinned lives (e.1 ++ items_of es) (items_of v)) (sym kept.1)
            (both_thinned lives e.1 kept.0.1 (items_of es) (items_of t.0)
            (kept.2.thinned lives first) (trim_thinned es t.0 t.1 lives after))
        | inr gone ↦ subst (λ v. IsThinned lives (e.1 ++ items_of es) (items_of v)) (sym gone.0)
            (both_thinned lives e.1 [] (items_of es) (items_of t.0)
            (subst (IsThinned lives e.1) gone.1 (part_thinned e.1 gone.2 lives first))
            (trim_thinned es t.0 t.1 lives after))
      ]

-- what was written back is found
pub look_set : {K : Type 0} (test : K → Bool) (es : List (K × List ObservationData))
    (f g : List ObservationData) → lookup test es ≡ Some f → lookup test (set_value test es g) ≡ Some g
look_set test [] f g found = absurd (cc)
look_set test (e ∷ es) f g found = elim (cases_Bool (test e.0)) [
  | inl yea ↦ rw (yea, yea) refl
  | inr nay ↦ rw (nay, nay) (look_set test es f g (rw nay at found))
]

-- no slot is left of a key that was taken out
pub key_gone : {K : Type 0} (octets : K → List ℕ) (q : List ℕ)
    (es : List (K × List ObservationData)) (f g : List ObservationData)
    → IsDescending (λ (a b : K × List ObservationData). octets_cmp (octets b.0) (octets a.0)) es
    → lookup (λ k. is_eq (octets_cmp q (octets k))) es ≡ Some f
    → (d : K × List ObservationData)
    → Has (remove_entry (λ k. is_eq (octets_cmp q (octets k)))
    (set_value (λ k. is_eq (octets_cmp q (octets k))) es g)) d
    → octets d.0 ≡ q → ⊥
key_gone octets q [] f g down found d h same = absurd (cc)
key_gone octets q (e ∷ es) f g down found d h same =
    elim (cases_Bool (is_eq (octets_cmp q (octets e.0)))) [
      | inl yea ↦
          let far : Has es d = rw (yea, yea) at h in
          let tied : octets_cmp q (octets e.0) ≡ Equal = (Equal-is _).0 yea in
          let over : octets_cmp q (octets e.0) ≡ Greater =
          ap (λ v. octets_cmp v (octets e.0)) (sym same) ∙ down.0 d far in
          absurd (cc)
      | inr nay ↦ elim (rw (nay, nay) at h) [
        | inl here ↦ absurd (false≢true (sym nay
            ∙ ap is_eq (ap (λ v. octets_cmp q (octets v.0)) here
            ∙ (ap (octets_cmp q) same ∙ tied_itself nat_list_cmp_total q))))
        | inr far ↦ key_gone octets q es f g down.1 (rw nay at found) d far same
      ]
    ]
