use Rattle.std.proofs.Common.{rules, arith}
use Rattle.fleet_name.proofs.Spelling.{count_le-wire, pushed_is, pushed_named, pushed_spells}
use Rattle.fleet_name.specs.Name.{labels_of}
use Rattle.fleet_name.proofs.name.Name.push.Goals as goal

pub overflow_add-self : goal.overflow_add-self
overflow_add-self g c =
    omega (
      arith,
      count_le-wire (labels_of c.self.inside.octets.items),
      c.self.invariant.counted,
      c.self.invariant.lawful.fits,
    )

pub invariant_of-self-2 : goal.invariant_of-self-2
invariant_of-self-2 g c =
    pushed_spells _ _ c.args.label.now _ _ c.self.view_is c.self.invariant
    c.in_ok-append_label.ensures.ok (search rules) (omega arith)
    (omega (arith, c.if-len-label-gt-LONGEST_NAME.false))

pub returns-clause-ok : goal.returns-clause-ok
returns-clause-ok g c =
    pushed_is _ _ c.args.label.now _ _ c.self.view_is c.self.invariant
    c.in_ok-append_label.ensures.ok (search rules) (omega arith)
    (omega (arith, c.if-len-label-gt-LONGEST_NAME.false))

pub returns-clause-named : goal.returns-clause-named
returns-clause-named g c =
    pushed_named _ _ c.args.label.now _ _ c.self.view_is c.self.invariant
    c.in_ok-append_label.ensures.ok (search rules) (omega arith)
    (omega (arith, c.if-len-label-gt-LONGEST_NAME.false))
