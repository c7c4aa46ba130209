use Rattle.std.proofs.Common.{◌≡◌, sym, ap, subst, ◌∙◌, arith, rules}
use mathlib.Core.Bool.{false≢true}
use Rattle.fleet_name.specs.Name.{lower, IsWire}
use Rattle.fleet_program.proofs.NameWords.{too_long, written, suffix_found}
use Rattle.fleet_program.proofs.words.Hex.spells_name.Goals as goal

pub returns-then-size-gt-LONGEST_NAME : goal.returns-then-size-gt-LONGEST_NAME
returns-then-size-gt-LONGEST_NAME c = (
  λ e. absurd (false≢true e),
  λ w. absurd (too_long c.self.inside.digits.now c.self.invariant
      (omega (arith, c.if-size-gt-LONGEST_NAME.true)) (subst (λ o. IsWire (lower o)) (sym c.self.view_is) w)),
)

pub returns : goal.returns
returns c =
    let digits = c.self.inside.digits.now in
    let decoded = written digits c.decode_to_slice.new.out _ c.decode_to_slice.result
    c.self.invariant (search rules) c.decode_to_slice.ensures.value in
    let is : c.make_ascii_lowercase.new.self ≡ lower c.args.self.now =
    c.make_ascii_lowercase.ensures.after ∙ ap lower (decoded ∙ c.self.view_is) in
    let found = suffix_found _ c.make_ascii_lowercase.new.self c.suffix_in.result
    c.suffix_in.ensures in (
      λ e. subst IsWire is (found.0 (sym c.is_some.ensures ∙ e)),
      λ w. c.is_some.ensures ∙ found.1 (subst IsWire (sym is) w),
    )
