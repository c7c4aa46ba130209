-- How far a cursor passes over fronts.
-- Serves `Cursor::pass`.
use Rattle.std.proofs.Common.{◌≡◌, ℕ, ◌+◌, ◌-◌, ◌<◌, ◌≤◌, Bool, false, List, [], ◌∷◌, ◌⊎◌, inl, inr, length, refl, sym, ap, ◌∙◌, subst, arith}
use Rattle.std.specs.Ordering.{ordering_then, ordering_reverse}
use Rattle.std.specs.declared.cmp.Ordering.{Ordering}
use Rattle.std.specs.declared.cmp.Ordering.TheVariants.{Less, Equal, Greater}
use Rattle.std.proofs.lemmas.Bool.{cases_eq}
use Rattle.std.proofs.lemmas.Cmp.{tied_itself, nat_cmp_total, nat_list_cmp_total}
use Rattle.fleet_name.specs.Name.{wire}
use Rattle.fleet_observe.specs.Members.{Has}
use Rattle.fleet_observe.specs.Observation.{ObservationData}
use Rattle.fleet_observe.specs.Preference.{octets_cmp}
use Rattle.fleet_cache.specs.Front.{IsDescending}
use Rattle.fleet_cache.specs.declared.words.ShortKey.{ShortKey}
use Rattle.fleet_cache.specs.steps.Keyed.{IsOfKey}
use Rattle.fleet_cache.specs.steps.Listed.{ListsFronts, IsShortAfter, IsLongAfter}
use Rattle.fleet_cache.specs.steps.Packed.{words_of, short_words}
use Rattle.fleet_cache.specs.steps.Reclaimed.{StaysIn, turn, ComesBefore, IsPassed, IsPassedAt, StopsAfter}
use Rattle.fleet_cache.specs.steps.Rounds.{count, is_ahead}
use Rattle.fleet_cache.specs.steps.Slots.{is_nil}
use Rattle.fleet_cache.proofs.Counting.{count_less}
use Rattle.fleet_cache.proofs.Turns.{turn_start, turn_short, turn_long, order, come_after, not_after_itself, ahead_to, ahead_from}
use Rattle.fleet_cache.proofs.ListedFronts.{one_of, words_least, words_most}

less_not_greater : (o : Ordering) → o ≡ Less → o ≡ Greater → ⊥
less_not_greater o l g = let no : Less ≡ Greater = sym l ∙ g in cc

less_not_equal : (o : Ordering) → o ≡ Less → o ≡ Equal → ⊥
less_not_equal o l g = let no : Less ≡ Equal = sym l ∙ g in cc

-- of two keys of the same map
tagged : (tag : ℕ) (v w : List ℕ) → octets_cmp (tag ∷ v) (tag ∷ w) ≡ octets_cmp v w
tagged tag v w = ap (λ (o : Ordering). ordering_then o (octets_cmp v w)) (tied_itself nat_cmp_total tag)

-- of a name that a purge comes to before it comes to a short one, the key is short
pub short_before : (w d : List ℕ) → 4 ≤ length w → length d ≡ 4 → ComesBefore w d → length w ≡ 4
short_before w d least four before = elim (cases_eq (length w) 4) [
  | inl same ↦ same
  | inr other ↦
      let more : 4 < length w = omega (arith, least, other) in
      let over : octets_cmp (turn w) (turn d) ≡ Greater = rw (turn_long w more, turn_short d four) refl in
      absurd (less_not_greater (octets_cmp (turn w) (turn d)) before over)
]

-- from a short key, or from the start
pub short_after : (c w : List ℕ) → length w ≡ 4 → length c ≤ 4 → (length c ≡ 4 → octets_cmp c w ≡ Less)
    → ComesBefore c w
short_after c w four few less = elim (cases_eq (length c) 4) [
  | inl same ↦ rw (turn_short c same, turn_short w four) (tagged 0 c w ∙ less same)
  | inr other ↦ rw (turn_start c (omega (arith, few, other)), turn_short w four) refl
]

pub after_short : (c w : List ℕ) → length w ≡ 4 → ComesBefore c w → length c ≡ 4
    → octets_cmp c w ≡ Less
after_short c w four before same = sym (tagged 0 c w)
    ∙ (rw (turn_short c same, turn_short w four) at before)

pub long_after_short : (c w : List ℕ) → 4 < length w → length c ≤ 4 → ComesBefore c w
long_after_short c w more few = elim (cases_eq (length c) 4) [
  | inl same ↦ rw (turn_short c same, turn_long w more) refl
  | inr other ↦ rw (turn_start c (omega (arith, few, other)), turn_long w more) refl
]

pub long_after : (c w : List ℕ) → 4 < length w → 4 < length c → octets_cmp c w ≡ Less
    → ComesBefore c w
long_after c w more long less = rw (turn_long c long, turn_long w more) (tagged 1 c w ∙ less)

pub after_long : (c w : List ℕ) → 4 < length w → 4 < length c → ComesBefore c w
    → octets_cmp c w ≡ Less
after_long c w more long before = sym (tagged 1 c w)
    ∙ (rw (turn_long c long, turn_long w more) at before)

-- after a long key no short one comes
pub none_short : (c w : List ℕ) → length w ≡ 4 → 4 < length c → ComesBefore c w → ⊥
none_short c w four long before =
    let over : octets_cmp (turn c) (turn w) ≡ Greater = rw (turn_long c long, turn_short w four) refl in
    less_not_greater (octets_cmp (turn c) (turn w)) before over

module _ {K : Type 0} (words : K → List ℕ) (tag : ℕ) (items : List ObservationData)
    (from : List ℕ) (IsMine : List ℕ → Type 0) where
  abbrev Slot : Type 0
  Slot = K × List ObservationData

  -- these fronts are left, and what was passed over is as is said
  pub record ArePassing (IsSuch : ObservationData → Type 0) (es : List Slot) : Type 0 where
    pub of_key : (e : Slot) → Has es e → IsOfKey items (words e.0) e.1
    pub some : (e : Slot) → Has es e → is_nil e.1 ≡ false
    pub tagged : (e : Slot) → Has es e → turn (words e.0) ≡ tag ∷ words e.0
    pub after : (e : Slot) → Has es e → ComesBefore from (words e.0)
    pub such : (o : ObservationData) → Has items o → ComesBefore from (words_of o)
        → IsMine (words_of o) → IsSuch o ⊎ ((e : Slot) × Has es e × Has e.1 o)
    pub ascending : IsDescending (λ (a b : Slot). octets_cmp (words b.0) (words a.0)) es

  -- it came to the key with the words `at`, which are near, and looked at `left - rest` fronts
  pub record HasLooked (IsNear : List ℕ → Type 0) (left rest : ℕ) (es : List Slot) : Type 0 where
    pub at : List ℕ
    pub near : IsNear at
    pub beyond : (e : Slot) → Has es e → ComesBefore at (words e.0)
    pub looked : count (is_ahead at) items + left ≤ count (is_ahead from) items + rest

  module _ {IsSuch : ObservationData → Type 0} (es rest : List Slot) (e : Slot) (is : es ≡ e ∷ rest)
      (way : ArePassing IsSuch es) where
    abbrev now : ArePassing IsSuch (e ∷ rest)
    now = subst (ArePassing IsSuch) is way

    pub first_of_key : IsOfKey items (words e.0) e.1
    first_of_key = now.of_key e (inl refl)

    -- the first of them is as is said
    pub passes_one : (IsAlso : ObservationData → Type 0) → ((o : ObservationData) → IsSuch o → IsAlso o)
        → ((o : ObservationData) → Has e.1 o → IsAlso o) → ArePassing IsAlso rest
    passes_one IsAlso also here = record {
      of_key = λ f h. now.of_key f (inr h);
      some = λ f h. now.some f (inr h);
      tagged = λ f h. now.tagged f (inr h);
      after = λ f h. now.after f (inr h);
      such = λ o h come mine. elim (now.such o h come mine) [
        | inl done ↦ inl (also o done)
        | inr s ↦ elim s.1 [
          | inl first ↦ inl (here o (subst (λ (v : Slot). Has v.1 o) (sym first) s.2))
          | inr far ↦ inr (s.0, far, s.2)
        ]
      ];
      ascending = now.ascending.1;
    }

    -- it has a name
    abbrev one : (o : ObservationData) × Has e.1 o
    one = one_of e.1 (now.some e (inl refl))

    named : words_of one.0 ≡ words e.0
    named = first_of_key.keyed one.0 one.1

    pub least : 4 ≤ length (words e.0)
    least = let same = ap length named in let few = words_least (wire one.0.name) in omega (arith, same, few)

    pub most : length (words e.0) ≤ 32
    most = let same = ap length named in let many = words_most (wire one.0.name) in omega (arith, same, many)

    -- it stops at it
    pub stops_after : (to : List ℕ) → to ≡ words e.0 → StopsAfter items from to
    stops_after to at = inr (
      one.0,
      first_of_key.member one.0 one.1,
      named ∙ sym at,
      subst (ComesBefore from) (sym at) (now.after e (inl refl)),
    )

    -- the keys of the others come after its own
    key_less : (f : Slot) → Has rest f → ComesBefore (words e.0) (words f.0)
    key_less f h =
        let over : octets_cmp (words f.0) (words e.0) ≡ Greater = now.ascending.0 f h in
        let less : octets_cmp (words e.0) (words f.0) ≡ Less =
        order.antisymm (words e.0) (words f.0) ∙ ap ordering_reverse over in
        ap (λ v. octets_cmp v (turn (words f.0))) (now.tagged e (inl refl))
        ∙ (ap (octets_cmp (tag ∷ words e.0)) (now.tagged f (inr h))
        ∙ (tagged tag (words e.0) (words f.0) ∙ less))

    -- it was looked at
    pub has_looked : (IsNear : List ℕ → Type 0) (left more fewer : ℕ) → fewer ≡ more - 1
        → HasLooked IsNear left more es
        → count (is_ahead (words e.0)) items + left ≤ count (is_ahead from) items + fewer
    has_looked IsNear left more fewer one_less l =
        let first : ComesBefore l.at (words e.0) = l.beyond e (subst (λ v. Has v e) (sym is) (inl refl)) in
        let step : count (is_ahead (words e.0)) items + 1 ≤ count (is_ahead l.at) items =
        count_less (is_ahead (words e.0)) (is_ahead l.at) items
        (λ o h ahead. ahead_to l.at o (come_after l.at (words e.0) (words_of o) first
        (ahead_from (words e.0) o ahead)))
        one.0 (first_of_key.member one.0 one.1) (not_after_itself (words e.0) one.0 named)
        (ahead_to l.at one.0 (subst (ComesBefore l.at) (sym named) first)) in
        omega (arith, step, one_less, l.looked)

    pub looks_on : (IsNear : List ℕ → Type 0) (left more fewer : ℕ) → fewer ≡ more - 1
        → IsNear (words e.0) → HasLooked IsNear left more es → HasLooked IsNear left fewer rest
    looks_on IsNear left more fewer one_less near l = record {
      at = words e.0;
      near = near;
      beyond = key_less;
      looked = has_looked IsNear left more fewer one_less l;
    }

    not_before : (o : ObservationData) → ComesBefore (words_of o) (words e.0)
        → (s : Slot) → Has (e ∷ rest) s → Has s.1 o → ⊥
    not_before o before s h k =
        let same : words_of o ≡ words s.0 = (now.of_key s h).keyed o k in
        let less : octets_cmp (words s.0) (words e.0) ≡ Less = sym (tagged tag (words s.0) (words e.0))
        ∙ (ap (λ v. octets_cmp v (tag ∷ words e.0)) (sym (now.tagged s h))
        ∙ (ap (octets_cmp (turn (words s.0))) (sym (now.tagged e (inl refl)))
        ∙ subst (λ v. ComesBefore v (words e.0)) same before)) in
        elim h [
          | inl here ↦ less_not_equal (octets_cmp (words s.0) (words e.0)) less
              (ap (λ (v : Slot). octets_cmp (words v.0) (words e.0)) (sym here)
              ∙ tied_itself nat_list_cmp_total (words e.0))
          | inr far ↦ less_not_greater (octets_cmp (words s.0) (words e.0)) less
              (now.ascending.0 s far)
        ]

    pub passed_to : (IsAlso : ObservationData → Type 0) → ((o : ObservationData) → IsSuch o → IsAlso o)
        → (to : List ℕ) → to ≡ words e.0
        → ((o : ObservationData) → ComesBefore (words_of o) (words e.0) → IsMine (words_of o))
        → IsPassed IsAlso items from to
    passed_to IsAlso also to at mine o h come or = elim or [
      | inl none ↦ let few : length (words e.0) ≡ 0 = ap length (sym at ∙ none) in
          absurd (omega (arith, few, least))
      | inr until ↦
          let before = subst (ComesBefore (words_of o)) at until in
          elim (now.such o h come (mine o before)) [
            | inl done ↦ also o done
            | inr s ↦ absurd (not_before o before s.0 s.1 s.2)
          ]
    ]

    -- and it is as is said
    pub passed_at : (IsAlso : ObservationData → Type 0) → ((o : ObservationData) → Has e.1 o → IsAlso o)
        → (to : List ℕ) → to ≡ words e.0 → IsPassedAt IsAlso items to
    passed_at IsAlso here to at o h key = here o (first_of_key.whole o h (key ∙ at))

  -- none is left
  pub none_left : {IsSuch : ObservationData → Type 0} (es : List Slot) → es ≡ [] → ArePassing IsSuch es
      → (o : ObservationData) → Has items o → ComesBefore from (words_of o) → IsMine (words_of o)
      → IsSuch o
  none_left es is way o h come mine = elim (way.such o h come mine) [
    | inl done ↦ done
    | inr s ↦ absurd (subst (λ v. Has v s.0) is s.1)
  ]

-- what does not end before a moment does not end before an earlier one
pub stays_later : (items : List ObservationData) (m : ℕ) (flushes : Bool) (soonest sooner : ℕ)
    → sooner ≤ soonest → (o : ObservationData) → StaysIn items m flushes soonest o
    → StaysIn items m flushes sooner o
stays_later items m flushes soonest sooner le o s = record {
  unended = s.unended;
  live = s.live;
  not_before = omega (arith, le, s.not_before);
}

abbrev pub IsShort : List ℕ → Type 0
IsShort w = length w ≡ 4

abbrev pub IsAny : List ℕ → Type 0
IsAny w = Unit {0}

-- the key of a short name, or the start
abbrev pub IsNearShort : List ℕ → Type 0
IsNearShort w = length w ≤ 4

module _ (items : List ObservationData) (from : List ℕ) (IsSuch : ObservationData → Type 0) where
  -- at the first front of a short name
  pub begins_short : (es rs : List (ShortKey × List ObservationData)) → rs ≡ es → length from ≤ 4
      → ListsFronts short_words items (IsShortAfter from) es
      → ArePassing short_words 0 items from IsShort IsSuch rs
  begins_short es rs is few all = subst (ArePassing short_words 0 items from IsShort IsSuch) (sym is)
      (record {
        of_key = all.of_key;
        some = all.some;
        tagged = λ e h. turn_short (short_words e.0) refl;
        after = λ e h. short_after from (short_words e.0) refl few (all.such e h).1;
        such = λ o h come four. inr (all.whole o h (four, after_short from (words_of o) four come));
        ascending = all.ascending;
      })

  -- where nothing was looked at
  pub begins_looking : {K : Type 0} (words : K → List ℕ) (tag : ℕ) (IsMine IsNear : List ℕ → Type 0)
      (es : List (K × List ObservationData)) (left : ℕ) → IsNear from
      → ArePassing words tag items from IsMine IsSuch es
      → HasLooked words tag items from IsMine IsNear left left es
  begins_looking words tag IsMine IsNear es left near way = record {
    at = from;
    near = near;
    beyond = way.after;
    looked = omega arith;
  }

  -- after the short ones come the others
  pub looks_further : {K : Type 0} (words : K → List ℕ) (es : List (ShortKey × List ObservationData))
      (rs : List (K × List ObservationData)) (left rest : ℕ)
      → HasLooked short_words 0 items from IsShort IsNearShort left rest es
      → ((e : K × List ObservationData) → Has rs e → 4 < length (words e.0))
      → HasLooked words 1 items from IsAny IsAny left rest rs
  looks_further words es rs left rest l long = record {
    at = l.at;
    near = tt;
    beyond = λ e h. long_after_short l.at (words e.0) (long e h) l.near;
    looked = l.looked;
  }

  -- at the first of the others: the short ones that come are as is said
  pub begins_long : {K : Type 0} (words : K → List ℕ) (es rs : List (K × List ObservationData)) → rs ≡ es → (key : List ℕ)
      → ((length from ≤ 4) × (key ≡ []) × ((o : ObservationData) → Has items o
      → ComesBefore from (words_of o) → length (words_of o) ≡ 4 → IsSuch o))
      ⊎ ((4 < length from) × (key ≡ from))
      → ListsFronts words items (IsLongAfter key) es → ArePassing words 1 items from IsAny IsSuch rs
  begins_long words es rs is key way all = subst (ArePassing words 1 items from IsAny IsSuch) (sym is) (record {
    of_key = all.of_key;
    some = all.some;
    tagged = λ e h. turn_long (words e.0) (all.such e h).0;
    after = λ e h. comes (words e.0) (all.such e h) way;
    such = λ o h come mine. elim (cases_eq (length (words_of o)) 4) [
      | inl four ↦ elim way [
        | inl s ↦ inl (s.2 o h come four)
        | inr l ↦ absurd (none_short from (words_of o) four l.0 come)
      ]
      | inr other ↦
          let least = words_least (wire o.name) in
          let more : 4 < length (words_of o) = omega (arith, least, other) in
          inr (all.whole o h (more, goes (words_of o) more come way))
    ];
    ascending = all.ascending;
  })
    where
      comes : (w : List ℕ) → IsLongAfter key w → ((length from ≤ 4) × (key ≡ [])
          × ((o : ObservationData) → Has items o → ComesBefore from (words_of o)
          → length (words_of o) ≡ 4 → IsSuch o)) ⊎ ((4 < length from) × (key ≡ from))
          → ComesBefore from w
      comes w such (inl s) = long_after_short from w such.0 s.0
      comes w such (inr l) = long_after from w such.0 l.0 (subst (λ v. octets_cmp v w ≡ Less) l.1 such.1)

      nothing_first : (w : List ℕ) → 4 < length w → octets_cmp [] w ≡ Less
      nothing_first [] more = absurd (omega (arith, more))
      nothing_first (x ∷ w) more = refl

      goes : (w : List ℕ) → 4 < length w → ComesBefore from w → ((length from ≤ 4) × (key ≡ [])
          × ((o : ObservationData) → Has items o → ComesBefore from (words_of o)
          → length (words_of o) ≡ 4 → IsSuch o)) ⊎ ((4 < length from) × (key ≡ from))
          → octets_cmp key w ≡ Less
      goes w more come (inl s) = subst (λ v. octets_cmp v w ≡ Less) (sym s.1) (nothing_first w more)
      goes w more come (inr l) = subst (λ v. octets_cmp v w ≡ Less) (sym l.1)
          (after_long from w more l.0 come)
