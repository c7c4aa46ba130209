-- What is found by a name is the most preferred of its items.
-- Serves `Fronts::covers`, `Held::at`, `Held::heads`, `flush_at`, `preferred_of`, `is_stale`,
-- `trim`, `short::drop_hidden`, `short::store`, `store::drop_hidden`, `store::store`, and what
-- `Both`, `Trimming` serve.
use Rattle.std.proofs.Common.{ℕ, ◌≡◌, ◌<◌, ◌||◌, ◌⊎◌, nat_eq, arith, Bool, true, false, refl, not, List, [], ◌∷◌, length, inl, inr, Option, Some, None, slice_get, MatchOption, ◌↔◌, sym, ap, ◌∙◌, subst}
use mathlib.Core.Bool.{false≢true}
use Rattle.std.specs.Map.{lookup}
use Rattle.std.specs.Ordering.{is_eq}
use Rattle.std.proofs.lemmas.Cmp.{tied_itself, nat_list_cmp_total}
use denote.Ref.{Bor}
use Rattle.std.specs.List.{AllByRecursion}
use Rattle.fleet_name.specs.Name.{wire, IsName, IsWire}
use Rattle.fleet_observe.specs.Members.{Has}
use Rattle.fleet_observe.specs.declared.observation.kind.Kind.{Kind}
use Rattle.fleet_observe.specs.Observation.{ObservationData, AreObservations, kind_number}
use Rattle.fleet_observe.specs.Preference.{preference, preference_total, octets_cmp}
use Rattle.fleet_cache.specs.Front.{IsDescending}
use Rattle.fleet_cache.specs.steps.Row.{row}
use Rattle.fleet_cache.specs.Live.{is_live}
use Rattle.fleet_cache.specs.Cut.{CutData, is_hidden}
use Rattle.fleet_cache.specs.steps.CutAt.{ShowsLiving, IsCutAt}
use Rattle.fleet_cache.specs.Dominates.{dominates}
use Rattle.fleet_cache.specs.Cached.{is_covered, IsCovered}
use Rattle.fleet_cache.specs.steps.Packed.{octet_words, words_of, IsPackable}
use Rattle.fleet_cache.specs.steps.Slots.{items_of, IsSlot, IsLaid}
use Rattle.fleet_cache.specs.steps.Best.{IsBest, referent, IsOn}
use Rattle.fleet_cache.specs.steps.Keyed.{HasNoKey, IsOfKey, IsOfName, is_of, is_shown_of}
use Rattle.fleet_cache.specs.steps.Noted.{HasNone}
use Rattle.fleet_cache.specs.steps.Orders.{row_of_key}
use Rattle.fleet_cache.proofs.Packed.{packed_exact}
use Rattle.fleet_cache.proofs.Slots.{Around, over_words, in_slot, slot_of_key, covered_in_front, in_front, in_items}
use Rattle.std.proofs.lemmas.Bool.{cases_Bool, not-true, or_left, or_right, and_parts, and_from}
use Rattle.std.proofs.lemmas.Bool.Decides.{nat_tests}
use Rattle.std.specs.List.{filter}
use Rattle.std.specs.declared.cmp.Ordering.TheVariants.{Greater}
use Rattle.std.specs.Cmp.{Equal-is}
use Rattle.fleet_name.proofs.Lemmas.{wire_exact, Has-filter, Has-in_filter}
use Rattle.fleet_observe.proofs.Lemmas.{kind_exact, preference_exact}

-- what is not false is true
pub twice : (b : Bool) → not b ≡ false → b ≡ true
twice true e = refl
twice false e = absurd (false≢true (sym e))

-- the test for what is covered
pub covered_from : (items : List ObservationData) (x : ObservationData) → is_covered items x ≡ true
    → IsCovered items x
covered_from [] x e = absurd (false≢true e)
covered_from (y ∷ items) x e = elim (cases_Bool (is_eq (preference y x))) [
  | inl same ↦ (y, inl refl, inl (preference_exact y x ((Equal-is _).0 same)))
  | inr apart ↦ elim (cases_Bool (dominates y x)) [
    | inl over ↦ (y, inl refl, inr over)
    | inr nay ↦ let r = covered_from items x (rw (apart, nay) at e) in (r.0, inr r.1, r.2)
  ]
]

pub covered_to : (items : List ObservationData) (x : ObservationData) → IsCovered items x
    → is_covered items x ≡ true
covered_to [] x c = absurd c.1
covered_to (y ∷ items) x c = elim c.1 [
  | inl here ↦ or_left (is_eq (preference y x) || dominates y x) (is_covered items x) (elim c.2 [
    | inl same ↦ or_left (is_eq (preference y x)) (dominates y x)
        (ap is_eq (ap (λ v. preference v x) (here ∙ same) ∙ tied_itself preference_total x))
    | inr over ↦ or_right (is_eq (preference y x)) (dominates y x) (ap (λ v. dominates v x) here
        ∙ over)
  ])
  | inr far ↦ or_right (is_eq (preference y x) || dominates y x) (is_covered items x)
      (covered_to items x (c.0, far, c.2))
]

module _ {K : Type 0} (octets : K → List ℕ) (q : List ℕ) where
  pub looked_none : (es : List (K × List ObservationData))
      → lookup (λ k. is_eq (octets_cmp q (octets k))) es ≡ None → (e : K × List ObservationData)
      → Has es e → octets e.0 ≡ q → ⊥
  looked_none [] none e h same = h
  looked_none (d ∷ es) none e h same = elim (cases_Bool (is_eq (octets_cmp q (octets d.0)))) [
    | inl yea ↦ let v : Some d.1 ≡ None = rw yea at none in absurd (cc)
    | inr nay ↦ elim h [
      | inl here ↦ absurd (false≢true (sym nay
          ∙ ap is_eq (ap (λ v. octets_cmp q (octets v.0)) here
          ∙ (ap (octets_cmp q) same ∙ tied_itself nat_list_cmp_total q))))
      | inr r ↦ looked_none es (rw nay at none) e r same
    ]
  ]

  -- none of the items makes x needless, of that key
  pub none_covers : (es : List (K × List ObservationData)) (x : ObservationData) → q ≡ words_of x
      → IsLaid octets es → lookup (λ k. is_eq (octets_cmp q (octets k))) es ≡ None
      → ¬ IsCovered (items_of es) x
  none_covers es x is laid none c =
      let e = in_slot es c.0 c.1 in
      let same : words_of c.0 ≡ words_of x = elim c.2 [
        | inl here ↦ ap words_of here
        | inr over ↦ over_words c.0 x over
      ] in
      looked_none es none e.0 e.1 (sym ((laid.slots e.0 e.1).one_key c.0 e.2) ∙ (same ∙ sym is))

module _ {K : Type 0} (octets : K → List ℕ) (q : List ℕ) where
  -- the key is not there
  pub look_none : (es : List (K × List ObservationData)) → IsLaid octets es
      → lookup (λ k. is_eq (octets_cmp q (octets k))) es ≡ None → HasNoKey (items_of es) q
  look_none es laid none = λ y h k. let e = in_slot es y h
      in looked_none octets q es none e.0 e.1 (sym ((laid.slots e.0 e.1).one_key y e.2) ∙ k)

  -- the key's front is there
  module _ (es : List (K × List ObservationData)) (f : List ObservationData)
      (laid : IsLaid octets es) (found : lookup (λ k. is_eq (octets_cmp q (octets k))) es
      ≡ Some f) where
    slot : IsSlot q f
    slot = (slot_of_key octets es q f laid found).slot

    pub look_some : IsOfKey (items_of es) q f
    look_some = record {
      member = λ y h. in_items octets es q f (slot_of_key octets es q f laid found).around y h;
      keyed = λ y h. slot.one_key y h;
      packable = λ y h. slot.packable y h;
      whole = λ y h same. in_front octets es q f (slot_of_key octets es q f laid found).around y h same;
      own_front = slot.own_front;
    }

    pub covered_there : (x : ObservationData) → q ≡ words_of x → IsCovered f x
        ↔ IsCovered (items_of es) x
    covered_there x is = covered_in_front octets es x f
        (subst (λ v. Around octets es v f) is (slot_of_key octets es q f laid found).around)

-- the octets of a name in full are packable
pub packable_wire : (name : List ℕ) → IsWire name → AllByRecursion (λ x. x < 256) name
    → (n : List (List ℕ)) → name ≡ wire n → IsPackable n
packable_wire name w bytes n is = record {
  bytes = subst (AllByRecursion (λ x. x < 256)) is bytes;
  named = subst IsName (wire_exact w.name n (sym w.whole ∙ is)) w.named;
}

-- the words of a name determine it
module _ (words : List ℕ) (n : List (List ℕ)) (items : List ObservationData)
    (e : words ≡ octet_words (wire n)) (kind : Kind) where
  one_name : (o : ObservationData) → o.name ≡ n → words_of o ≡ words
  one_name o k = ap (λ v. octet_words (wire v)) k ∙ sym e

  pub none_of_name : HasNoKey items words → IsOfName kind items n []
  none_of_name none = record {
    member = λ o h. absurd h;
    named = λ o h. absurd h;
    whole = λ o h k of_kind. none o h (one_name o k);
    in_rows = tt;
  }

  pub all_of_name : IsPackable n → (f : List ObservationData) → IsOfKey items words f
      → IsOfName kind items n f
  all_of_name fits f front = record {
    member = front.member;
    named = λ o h. packed_exact o.name n (front.packable o h) fits (front.keyed o h ∙ e);
    whole = λ o h k of_kind. front.whole o h (one_name o k);
    in_rows = front.own_front.descending;
  }

-- the test passes only what is of the kind and the type
of_from : (kind : Kind) (rtype : ℕ) (o : ObservationData) → is_of kind rtype o ≡ true
    → (o.kind ≡ kind) × (o.rtype ≡ rtype)
of_from kind rtype o e =
    let p = and_parts (nat_eq o.rtype rtype) (nat_eq (kind_number o.kind) (kind_number kind)) e in
    (kind_exact o.kind kind (grind (arith, nat_tests, p.1)), grind (arith, nat_tests, p.0))

of_to : (kind : Kind) (rtype : ℕ) (o : ObservationData) → o.kind ≡ kind → o.rtype ≡ rtype
    → is_of kind rtype o ≡ true
of_to kind rtype o k r =
    let same = ap kind_number k in
    and_from (nat_eq o.rtype rtype) (nat_eq (kind_number o.kind) (kind_number kind))
    (grind (arith, nat_tests, r)) (grind (arith, nat_tests, same))

-- in rows, the first one of a kind and a type is the most preferred
rows_first : (kind : Kind) (rtype : ℕ) (xs : List ObservationData) (x : ObservationData)
    (rest : List ObservationData) (test : ObservationData → Bool)
    → ((o : ObservationData) → test o ≡ true → (o.kind ≡ kind) × (o.rtype ≡ rtype))
    → IsDescending row xs → filter test xs ≡ x ∷ rest
    → (y : ObservationData) → Has xs y → test y ≡ true → (preference x y ≡ Greater) ⊎ (x ≡ y)
rows_first kind rtype [] x rest test decides d e y h k = absurd h
rows_first kind rtype (z ∷ xs) x rest test decides d e y h k = elim (cases_Bool (test z)) [
  | inl yea ↦
      let f : z ∷ filter test xs ≡ x ∷ rest = rw yea at e in
      let same : z ≡ x = cc in
      elim h [
        | inl here ↦ inr (sym same ∙ here)
        | inr far ↦
            let a = decides z yea in
            let b = decides y k in
            inl (ap (λ v. preference v y) (sym same)
            ∙ (sym (row_of_key z y (a.0 ∙ sym b.0) (a.1 ∙ sym b.1)) ∙ d.0 y far))
      ]
  | inr nay ↦ elim h [
    | inl here ↦ absurd (false≢true (sym nay ∙ (ap test here ∙ k)))
    | inr far ↦ rows_first kind rtype xs x rest test decides d.1 (rw nay at e) y far k
  ]
]

-- the first of a name's items that is of a kind and a type and that a cut shows
module _ (kind : Kind) (rtype : ℕ) (items here : List ObservationData) (n : List (List ℕ))
    (lives : ObservationData → Bool) (cut : CutData) (of : IsOfName kind items n here)
    (shows : ShowsLiving lives items n cut) where
  shown_on : (o : ObservationData) → Has items o → IsOn lives n kind rtype o → Has here o
      × (is_shown_of kind rtype cut o ≡ true)
  shown_on o h k = (
    of.whole o h k.named k.of_kind,
    and_from (is_of kind rtype o) (not (is_hidden cut o)) (of_to kind rtype o k.of_kind k.of_type)
        (ap not (shows o h k.named ∙ ap not k.live)),
  )

  pub first_is_best : (r : Option (Bor ObservationData))
      → MatchOption r (filter (is_shown_of kind rtype cut) here ≡ [])
      (λ x. (rest : List ObservationData)
      × (filter (is_shown_of kind rtype cut) here ≡ x.now ∷ rest))
      → IsBest (IsOn lives n kind rtype) items (referent r)
  first_is_best None none = λ y h k. let s = shown_on y h k in
      subst (λ v. Has v y) none (Has-in_filter (is_shown_of kind rtype cut) here y s.0 s.1)
  first_is_best (Some x) first =
      let m = Has-filter (is_shown_of kind rtype cut) here x.now
      (subst (λ v. Has v x.now) (sym first.1) (inl refl)) in
      let p = and_parts (is_of kind rtype x.now) (not (is_hidden cut x.now)) m.1 in
      let k = of_from kind rtype x.now p.0 in
      let seen : is_hidden cut x.now ≡ false = not-true (is_hidden cut x.now) p.1 in
      let named = of.named x.now m.0 in (
        of.member x.now m.0,
        record {
          live = twice (lives x.now) (sym (shows x.now (of.member x.now m.0) named) ∙ seen);
          named = named;
          of_kind = k.0;
          of_type = k.1;
        },
        λ y h j. let s = shown_on y h j in
            rows_first kind rtype here x.now first.0 (is_shown_of kind rtype cut)
            (λ o t. of_from kind rtype o (and_parts (is_of kind rtype o)
            (not (is_hidden cut o)) t).0)
            of.in_rows first.1 y s.0 s.1,
      )

-- where no name of this many octets is noted, there is none
pub none_noted : (lives : ObservationData → Bool) (n : List (List ℕ)) (kind : Kind) (size : ℕ)
    (items : List ObservationData) → HasNone kind size items → length (wire n) ≡ size
    → IsBest (IsOn lives n kind 0) items None
none_noted lives n kind size items none is y h on =
    none y h on.of_kind (ap (λ v. length (wire v)) on.named ∙ is)

-- and nothing is of the name and the kind
pub unnoted_of_name : (kind : Kind) (size : ℕ) (items : List ObservationData) (n : List (List ℕ))
    → HasNone kind size items → size ≡ length (wire n) → IsOfName kind items n []
unnoted_of_name kind size items n none is = record {
  member = λ o h. absurd h;
  named = λ o h. absurd h;
  whole = λ o h named of_kind. none o h of_kind (ap (λ v. length (wire v)) named ∙ sym is);
  in_rows = tt;
}

-- what has the words of another observation is of its name
pub key_named : (items : List ObservationData) (words : List ℕ) (front : List ObservationData)
    → IsOfKey items words front → (x : ObservationData) → Has front x → (o : ObservationData)
    → Has items o → words_of o ≡ words → o.name ≡ x.name
key_named items words front is x first o there key =
    packed_exact o.name x.name (is.packable o (is.whole o there key)) (is.packable x first)
    (key ∙ sym (is.keyed x first))

-- the first of a list is one of it
pub first_has : (xs : List ObservationData) (x : ObservationData) → Some x ≡ slice_get xs 0
    → Has xs x
first_has [] x e = absurd (cc)
first_has (y ∷ xs) x e = let same : y ≡ x = cc in inl same

-- a list without a first one has none
pub none_first : (xs : List ObservationData) (x : ObservationData) → None ≡ slice_get xs 0
    → Has xs x → ⊥
none_first [] x e h = h
none_first (y ∷ xs) x e h = absurd (cc)

-- a cut at the name of one observation of a key is a cut of all of the key
pub key_cut : (items : List ObservationData) (words : List ℕ) (front : List ObservationData)
    → IsOfKey items words front → AreObservations items → (x : ObservationData) → Has front x
    → (t : ℕ) (cut : CutData) → IsCutAt items t x.name cut → (o : ObservationData) → Has items o
    → words_of o ≡ words → is_hidden cut o ≡ not (is_live items t o)
key_cut items words front is lawful x first t cut known o there key =
    known o (lawful o there) (key_named items words front is x first o there key)
