use Rattle.std.proofs.Common.{◌≡◌, ◌∙◌, ◌≤◌, ◌+◌, ℕ, Vec, inl, inr, length, refl, sym, ap, subst, arith}
use Rattle.fleet_name.specs.Name.{wire}
use Rattle.fleet_observe.specs.Members.{Has}
use Rattle.fleet_cache.specs.steps.Listed.{ListsFronts, IsShortAfter}
use Rattle.fleet_cache.specs.steps.Packed.{words_of, short_words}
use Rattle.fleet_cache.specs.steps.Reclaimed.{StaysIn}
use Rattle.fleet_cache.specs.steps.Rounds.{count, is_ahead}
use Rattle.fleet_cache.proofs.ListedFronts.{words_least}
use Rattle.fleet_cache.proofs.CursorPass.{IsShort, IsAny, IsNearShort, first_of_key, passes_one, looks_on, has_looked, stops_after, passed_to, passed_at, most, none_left, begins_short, begins_long, begins_looking, looks_further, short_before, stays_later}
use Rattle.fleet_cache.proofs.reclaim.Cursor.pass.Goals as goal
use Rattle.fleet_cache.proofs.reclaim.Cursor.pass.Goals.{then-len-le-SHORT_WORDS+in-None, else-len-le-SHORT_WORDS}

pub loop-key-init : goal.loop-key-init
loop-key-init g c =
    let from = c.args.self.now.key.items in
    let IsSuch = StaysIn c.args.held.now c.args.now c.args.flushes 18446744073709551615 in
    let few : length from ≤ 4 = omega (
      arith,
      c.len.ensures,
      c.deref.ensures.len,
      c.if-len-le-SHORT_WORDS.true,
      ap length c.deref.ensures.value,
    ) in
    let way = begins_short c.args.held.now from IsSuch
    c.short_behind-key-items.result c.into_iter-key-iterator.result
    c.into_iter-key-iterator.ensures.into_iter_gives few
    (subst (λ w. ListsFronts short_words c.args.held.now (IsShortAfter w)
    c.short_behind-key-items.result) c.deref.ensures.value c.short_behind-key-items.ensures) in (
      way,
      begins_looking c.args.held.now from IsSuch short_words 0 IsShort IsNearShort
          c.into_iter-key-iterator.result c.args.left few way,
      refl,
    )

pub look-requires : goal.look-requires
look-requires g c = (
  short_words c.in-Some.key.now,
  first_of_key short_words 0 c.args.held.now c.args.self.now.key.items IsShort
      c.loop-key.key-iterator c.next.new.self (c.in-Some.key.now, c.in-Some.front.now)
      c.in-Some.ensures.steps c.loop-key.invariant.0,
)

pub loop-key-preserved : goal.loop-key-preserved
loop-key-preserved g c =
    let items = c.args.held.now in
    let from = c.args.self.now.key.items in
    let IsSuch = StaysIn items c.args.now c.args.flushes c.look.new.self.soonest in (
      passes_one short_words 0 items from IsShort c.loop-key.key-iterator c.next.new.self
          (c.in-Some.key.now, c.in-Some.front.now)
          c.in-Some.ensures.steps c.loop-key.invariant.0 IsSuch
          (stays_later items c.args.now c.args.flushes c.loop-key.passed.soonest
          c.look.new.self.soonest c.look.ensures.soonest)
          (c.look.ensures.stays (c.look.ensures.goes_on c.if-look.false)),
      looks_on short_words 0 items from IsShort c.loop-key.key-iterator c.next.new.self
          (c.in-Some.key.now, c.in-Some.front.now)
          c.in-Some.ensures.steps c.loop-key.invariant.0 IsNearShort c.args.left
          c.loop-key.passed.left c.look.new.self.left c.look.ensures.left (omega arith)
          c.loop-key.invariant.1,
      c.loop-key.invariant.2,
    )

pub returns-then-not-stop_at-clause-passed : goal.returns-then-not-stop_at-clause-passed
returns-then-not-stop_at-clause-passed g c = λ room.
    let less = c.stop_at.ensures.full c.if-not-stop_at.true in
    let four : length c.words.result ≡ 4 = ap length c.words.ensures in
    let same = c.loop-key.invariant.2 in
    absurd (omega (arith, room, less, four, same))

pub returns-then-not-stop_at-clause-stopped : goal.returns-then-not-stop_at-clause-stopped
returns-then-not-stop_at-clause-stopped g c = λ room.
    let less = c.stop_at.ensures.full c.if-not-stop_at.true in
    let four : length c.words.result ≡ 4 = ap length c.words.ensures in
    let same = c.loop-key.invariant.2 in
    absurd (omega (arith, room, less, four, same))

pub returns-then-not-stop_at-clause-room : goal.returns-then-not-stop_at-clause-room
returns-then-not-stop_at-clause-room g c =
    omega (arith, c.stop_at.ensures.room, c.loop-key.invariant.2)

pub returns-else-not-stop_at-clause-passed : goal.returns-else-not-stop_at-clause-passed
returns-else-not-stop_at-clause-passed g c = λ room.
    let items = c.args.held.now in
    passed_to short_words 0 items c.args.self.now.key.items IsShort
    c.loop-key.key-iterator c.next.new.self (c.in-Some.key.now, c.in-Some.front.now)
    c.in-Some.ensures.steps c.loop-key.invariant.0
    (StaysIn items c.args.now c.args.flushes c.look.new.self.soonest)
    (stays_later items c.args.now c.args.flushes c.loop-key.passed.soonest
    c.look.new.self.soonest c.look.ensures.soonest)
    c.stop_at.new.self.key.items (c.stop_at.ensures.at c.if-not-stop_at.false ∙ c.words.ensures)
    (λ o before. short_before (words_of o) (short_words c.in-Some.key.now)
    (words_least (wire o.name)) refl before)

pub returns-else-not-stop_at-clause-stopped : goal.returns-else-not-stop_at-clause-stopped
returns-else-not-stop_at-clause-stopped g c = λ room fresh.
    passed_at short_words 0 c.args.held.now c.args.self.now.key.items IsShort
    c.loop-key.key-iterator c.next.new.self (c.in-Some.key.now, c.in-Some.front.now)
    c.in-Some.ensures.steps c.loop-key.invariant.0
    (StaysIn c.args.held.now c.args.now c.args.flushes c.look.new.self.soonest)
    (c.look.ensures.stays fresh)
    c.stop_at.new.self.key.items (c.stop_at.ensures.at c.if-not-stop_at.false ∙ c.words.ensures)

pub returns-else-not-stop_at-clause-stops : goal.returns-else-not-stop_at-clause-stops
returns-else-not-stop_at-clause-stops g c =
    stops_after short_words 0 c.args.held.now c.args.self.now.key.items IsShort
    c.loop-key.key-iterator c.next.new.self (c.in-Some.key.now, c.in-Some.front.now)
    c.in-Some.ensures.steps c.loop-key.invariant.0
    c.stop_at.new.self.key.items (c.stop_at.ensures.at c.if-not-stop_at.false ∙ c.words.ensures)

pub returns-else-not-stop_at-clause-looked : goal.returns-else-not-stop_at-clause-looked
returns-else-not-stop_at-clause-looked g c = λ room.
    let items = c.args.held.now in
    let from = c.args.self.now.key.items in
    inr (subst (λ w. count (is_ahead w) items + c.args.left
    ≤ count (is_ahead from) items + c.look.new.self.left)
    (sym (c.stop_at.ensures.at c.if-not-stop_at.false ∙ c.words.ensures))
    (has_looked short_words 0 items from IsShort c.loop-key.key-iterator c.next.new.self
    (c.in-Some.key.now, c.in-Some.front.now) c.in-Some.ensures.steps c.loop-key.invariant.0
    IsNearShort c.args.left c.loop-key.passed.left c.look.new.self.left c.look.ensures.left
    c.loop-key.invariant.1))

pub returns-else-not-stop_at-clause-room : goal.returns-else-not-stop_at-clause-room
returns-else-not-stop_at-clause-room g c =
    omega (arith, c.stop_at.ensures.room, c.loop-key.invariant.2)

pub loop-key-2-init : goal.loop-key-2-init
loop-key-2-init g c =
    let items = c.args.held.now in
    let from = c.args.self.now.key.items in
    let soonest = c.if-len-le-SHORT_WORDS.passed.soonest in
    let IsSuch = StaysIn items c.args.now c.args.flushes soonest in
    let way = begins_long items from IsSuch
    {K = Vec ℕ g.row.A.Denot} (λ k. k.items)
    c.long_behind-key-items.result c.into_iter-key-iterator-2.result
    c.into_iter-key-iterator-2.ensures.into_iter_gives c.if-len-le-SHORT_WORDS.self.key.items
    (elim c.if-len-le-SHORT_WORDS.branch [
      | then-len-le-SHORT_WORDS+in-None w ↦ inl (
        omega (
          arith,
          c.len.ensures,
          w.if-len-le-SHORT_WORDS.true,
          w.deref.ensures.len,
          ap length w.deref.ensures.value,
        ),
        rw w.self-is w.clear.ensures.items,
        rw w.passed-is (none_left short_words 0 items from IsShort
            w.loop-key.key-iterator w.in-None.ensures.steps.0 w.loop-key.invariant.0),
      )
      | else-len-le-SHORT_WORDS w ↦ inr (
        omega (arith, c.len.ensures, w.if-len-le-SHORT_WORDS.false, c.args.self.now.key.ok),
        rw w.self-is refl,
      )
    ]) c.long_behind-key-items.ensures in (
      way,
      elim c.if-len-le-SHORT_WORDS.branch [
        | then-len-le-SHORT_WORDS+in-None w ↦ rw w.passed-is (looks_further items from
            (StaysIn items c.args.now c.args.flushes w.loop-key.passed.soonest)
            {K = Vec ℕ g.row.A.Denot} (λ k. k.items) w.loop-key.key-iterator
            c.into_iter-key-iterator-2.result c.args.left w.loop-key.passed.left
            w.loop-key.invariant.1
            (λ e h. (c.long_behind-key-items.ensures.such e (subst (λ v. Has v e)
            c.into_iter-key-iterator-2.ensures.into_iter_gives h)).0))
        | else-len-le-SHORT_WORDS w ↦ rw w.passed-is (begins_looking items from IsSuch
            {K = Vec ℕ g.row.A.Denot} (λ k. k.items) 1 IsAny IsAny
            c.into_iter-key-iterator-2.result c.args.left tt way)
      ],
      elim c.if-len-le-SHORT_WORDS.branch [
        | then-len-le-SHORT_WORDS+in-None w ↦ rw w.self-is (w.clear.ensures.capacity
            ∙ w.loop-key.invariant.2)
        | else-len-le-SHORT_WORDS w ↦ rw w.self-is refl
      ],
    )

pub look-requires-in-loop-key-2 : goal.look-requires-in-loop-key-2
look-requires-in-loop-key-2 g c = (
  c.in-Some-2.key.now.items,
  first_of_key {K = Vec ℕ g.row.A.Denot} (λ k. k.items) 1 c.args.held.now
      c.args.self.now.key.items IsAny c.loop-key-2.key-iterator c.next-in-loop-key-2.new.self
      (c.in-Some-2.key.now, c.in-Some-2.front.now) c.in-Some-2.ensures.steps c.loop-key-2.invariant.0,
)

pub loop-key-2-preserved : goal.loop-key-2-preserved
loop-key-2-preserved g c =
    let items = c.args.held.now in
    let from = c.args.self.now.key.items in
    let looked = c.look-in-loop-key-2 in (
      passes_one {K = Vec ℕ g.row.A.Denot} (λ k. k.items) 1 items from IsAny
          c.loop-key-2.key-iterator c.next-in-loop-key-2.new.self
          (c.in-Some-2.key.now, c.in-Some-2.front.now) c.in-Some-2.ensures.steps
          c.loop-key-2.invariant.0
          (StaysIn items c.args.now c.args.flushes looked.new.self.soonest)
          (stays_later items c.args.now c.args.flushes c.loop-key-2.passed.soonest
          looked.new.self.soonest looked.ensures.soonest)
          (looked.ensures.stays (looked.ensures.goes_on c.if-look-2.false)),
      looks_on {K = Vec ℕ g.row.A.Denot} (λ k. k.items) 1 items from IsAny
          c.loop-key-2.key-iterator c.next-in-loop-key-2.new.self
          (c.in-Some-2.key.now, c.in-Some-2.front.now) c.in-Some-2.ensures.steps
          c.loop-key-2.invariant.0 IsAny c.args.left c.loop-key-2.passed.left looked.new.self.left
          looked.ensures.left tt c.loop-key-2.invariant.1,
      c.loop-key-2.invariant.2,
    )

pub returns-then-not-stop_at-2-clause-passed : goal.returns-then-not-stop_at-2-clause-passed
returns-then-not-stop_at-2-clause-passed g c = λ room.
    let less = c.stop_at-then-look-2.ensures.full c.if-not-stop_at-2.true in
    let words = ap length c.deref-then-look-2.ensures.value in
    let same = c.loop-key-2.invariant.2 in
    let many = most {K = Vec ℕ g.row.A.Denot} (λ k. k.items) 1 c.args.held.now
    c.args.self.now.key.items IsAny c.loop-key-2.key-iterator c.next-in-loop-key-2.new.self
    (c.in-Some-2.key.now, c.in-Some-2.front.now) c.in-Some-2.ensures.steps c.loop-key-2.invariant.0 in
    absurd (omega (arith, room, less, words, same, many))

pub returns-then-not-stop_at-2-clause-stopped : goal.returns-then-not-stop_at-2-clause-stopped
returns-then-not-stop_at-2-clause-stopped g c = λ room.
    let less = c.stop_at-then-look-2.ensures.full c.if-not-stop_at-2.true in
    let words = ap length c.deref-then-look-2.ensures.value in
    let same = c.loop-key-2.invariant.2 in
    let many = most {K = Vec ℕ g.row.A.Denot} (λ k. k.items) 1 c.args.held.now
    c.args.self.now.key.items IsAny c.loop-key-2.key-iterator c.next-in-loop-key-2.new.self
    (c.in-Some-2.key.now, c.in-Some-2.front.now) c.in-Some-2.ensures.steps c.loop-key-2.invariant.0 in
    absurd (omega (arith, room, less, words, same, many))

pub returns-then-not-stop_at-2-clause-room : goal.returns-then-not-stop_at-2-clause-room
returns-then-not-stop_at-2-clause-room g c =
    omega (arith, c.stop_at-then-look-2.ensures.room, c.loop-key-2.invariant.2)

pub returns-else-not-stop_at-2-clause-passed : goal.returns-else-not-stop_at-2-clause-passed
returns-else-not-stop_at-2-clause-passed g c = λ room.
    let items = c.args.held.now in
    let looked = c.look-in-loop-key-2 in
    passed_to {K = Vec ℕ g.row.A.Denot} (λ k. k.items) 1 items c.args.self.now.key.items IsAny
    c.loop-key-2.key-iterator c.next-in-loop-key-2.new.self
    (c.in-Some-2.key.now, c.in-Some-2.front.now) c.in-Some-2.ensures.steps c.loop-key-2.invariant.0
    (StaysIn items c.args.now c.args.flushes looked.new.self.soonest)
    (stays_later items c.args.now c.args.flushes c.loop-key-2.passed.soonest
    looked.new.self.soonest looked.ensures.soonest)
    c.stop_at-then-look-2.new.self.key.items
    (c.stop_at-then-look-2.ensures.at c.if-not-stop_at-2.false ∙ c.deref-then-look-2.ensures.value)
    (λ o before. tt)

pub returns-else-not-stop_at-2-clause-stopped : goal.returns-else-not-stop_at-2-clause-stopped
returns-else-not-stop_at-2-clause-stopped g c = λ room fresh.
    let looked = c.look-in-loop-key-2 in
    passed_at {K = Vec ℕ g.row.A.Denot} (λ k. k.items) 1 c.args.held.now c.args.self.now.key.items IsAny
    c.loop-key-2.key-iterator c.next-in-loop-key-2.new.self
    (c.in-Some-2.key.now, c.in-Some-2.front.now) c.in-Some-2.ensures.steps c.loop-key-2.invariant.0
    (StaysIn c.args.held.now c.args.now c.args.flushes looked.new.self.soonest)
    (looked.ensures.stays fresh) c.stop_at-then-look-2.new.self.key.items
    (c.stop_at-then-look-2.ensures.at c.if-not-stop_at-2.false ∙ c.deref-then-look-2.ensures.value)

pub returns-else-not-stop_at-2-clause-stops : goal.returns-else-not-stop_at-2-clause-stops
returns-else-not-stop_at-2-clause-stops g c =
    stops_after {K = Vec ℕ g.row.A.Denot} (λ k. k.items) 1 c.args.held.now
    c.args.self.now.key.items IsAny c.loop-key-2.key-iterator c.next-in-loop-key-2.new.self
    (c.in-Some-2.key.now, c.in-Some-2.front.now) c.in-Some-2.ensures.steps c.loop-key-2.invariant.0
    c.stop_at-then-look-2.new.self.key.items
    (c.stop_at-then-look-2.ensures.at c.if-not-stop_at-2.false ∙ c.deref-then-look-2.ensures.value)

pub returns-else-not-stop_at-2-clause-looked : goal.returns-else-not-stop_at-2-clause-looked
returns-else-not-stop_at-2-clause-looked g c = λ room.
    let items = c.args.held.now in
    let from = c.args.self.now.key.items in
    let looked = c.look-in-loop-key-2 in
    inr (subst (λ w. count (is_ahead w) items + c.args.left
    ≤ count (is_ahead from) items + looked.new.self.left)
    (sym (c.stop_at-then-look-2.ensures.at c.if-not-stop_at-2.false
    ∙ c.deref-then-look-2.ensures.value))
    (has_looked {K = Vec ℕ g.row.A.Denot} (λ k. k.items) 1 items from IsAny
    c.loop-key-2.key-iterator c.next-in-loop-key-2.new.self
    (c.in-Some-2.key.now, c.in-Some-2.front.now) c.in-Some-2.ensures.steps
    c.loop-key-2.invariant.0 IsAny c.args.left c.loop-key-2.passed.left looked.new.self.left
    looked.ensures.left c.loop-key-2.invariant.1))

pub returns-else-not-stop_at-2-clause-room : goal.returns-else-not-stop_at-2-clause-room
returns-else-not-stop_at-2-clause-room g c =
    omega (arith, c.stop_at-then-look-2.ensures.room, c.loop-key-2.invariant.2)

pub returns-clause-passed : goal.returns-clause-passed
returns-clause-passed g c = λ room o h come or.
    none_left {K = Vec ℕ g.row.A.Denot} (λ k. k.items) 1 c.args.held.now c.args.self.now.key.items
    IsAny c.loop-key-2.key-iterator c.in-None-2.ensures.steps.0 c.loop-key-2.invariant.0 o h come tt

pub returns-clause-stopped : goal.returns-clause-stopped
returns-clause-stopped g c = λ room fresh o h key.
    let none : length (words_of o) ≡ 0 = ap length (key ∙ c.clear-2.ensures.items) in
    let least = words_least (wire o.name) in
    absurd (omega (arith, none, least))

pub returns-clause-room : goal.returns-clause-room
returns-clause-room g c = omega (arith, c.clear-2.ensures.capacity, c.loop-key-2.invariant.2)
