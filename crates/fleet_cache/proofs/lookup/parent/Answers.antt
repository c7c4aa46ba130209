use Rattle.std.proofs.Common.{◌+◌, drop, length, sym, ap, ◌∙◌, arith}
use Rattle.fleet_name.proofs.Lemmas.{wire_some, wire_exact}
use Rattle.fleet_cache.proofs.Parent.{root_read, more_read}
use Rattle.fleet_cache.proofs.lookup.parent.Goals as goal

pub bounds-name-0 : goal.bounds-name-0
bounds-name-0 c = let some = wire_some c.requires.name in let whole = ap length c.requires.whole
    in omega (arith, some, whole)

pub returns-then-first-eq0 : goal.returns-then-first-eq0
returns-then-first-eq0 c n is = root_read c.args.name.now c.requires c.if-first-eq0.true n is

pub split_at-requires : goal.split_at-requires
split_at-requires c =
    let b = more_read c.args.name.now c.requires c.if-first-eq0.false in
    rw b.first b.within

pub returns : goal.returns
returns c n is =
    let at = c.args.name.now in
    let b = more_read at c.requires c.if-first-eq0.false in
    record {
      label = b.label;
      rest = b.rest;
      is = wire_exact n c.requires.name (sym is ∙ c.requires.whole) ∙ b.is;
      named = b.named;
      whole = c.split_at.ensures.back ∙ (ap (λ v. drop (v + 1) at) b.first ∙ b.above);
    }
