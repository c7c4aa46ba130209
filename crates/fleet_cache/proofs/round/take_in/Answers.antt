use Rattle.std.proofs.Common.{◌≡◌, ◌∙◌, ◌+◌, inl, sym, ap, subst, arith}
use Rattle.fleet_cache.specs.steps.Held.{IsTaken}
use Rattle.fleet_cache.specs.steps.Rounds.{IsRound, IsBounded, LeavesFew}
use Rattle.fleet_cache.proofs.Rounds.{round_more, round_less, taken_more, taken_fewer, taken_size}
use Rattle.fleet_cache.proofs.round.take_in.Goals as goal

pub returns-then-kept-clause-bounded : goal.returns-then-kept-clause-bounded
returns-then-kept-clause-bounded g c most begun enough bounded few =
    let items = c.args.held.now in
    let at = c.args.round.now.cursor.key.items in
    let owed = c.args.round.now.owed in
    let t = c.in_ok-kept.ensures.taken in
    let paid : c.note.new.self.owed ≡ owed + 4 = c.note.ensures.paid bounded.1 in
    let stays : c.note.new.self.cursor.key.items ≡ at =
    ap (λ v. v.key.items) c.note.ensures.cursor ∙ c.in_ok-make_room.ensures.stays in
    let gone = c.go_on.ensures.bounded most begun enough
    (subst (IsRound most begun c.args.floor c.take.new.self c.note.new.self.cursor.key.items) (sym paid)
    (subst (λ w. IsRound most begun c.args.floor c.take.new.self w (owed + 4)) (sym stays)
    (round_more most begun c.args.floor items at c.take.new.self
    (taken_more items c.take.new.self c.args.observation c.in_ok-kept.kept t) t.size owed bounded)))
    (omega (arith, paid, bounded.1)) few in (
      gone.0,
      subst (λ w. LeavesFew most begun w c.go_on.new.held c.go_on.new.self.cursor.key.items) stays gone.1,
    )

pub returns-else-kept-clause-bounded : goal.returns-else-kept-clause-bounded
returns-else-kept-clause-bounded g c most begun enough bounded few =
    let items = c.args.held.now in
    let new = c.take.new.self in
    let at = c.args.round.now.cursor.key.items in
    let owed = c.args.round.now.owed in
    let t = subst (IsTaken items new c.args.observation) c.if-kept.false c.in_ok-kept.ensures.taken in
    let stays = c.in_ok-make_room.ensures.stays in (
      subst (λ w. IsBounded most begun c.args.floor new w owed) (sym stays) (
        round_less most begun c.args.floor items at owed c.args.floor new (omega arith)
            (taken_fewer items new c.args.observation t) (taken_size items new c.args.observation t)
            bounded.0,
        bounded.1,
      ),
      λ back. inl (sym stays ∙ back),
    )
