use Rattle.std.proofs.Common.{◌≡◌, ◌+◌, ◌-◌, drop, arith, refl, subst, ◌∙◌, ℕ, sym, length-drop}
use Rattle.std.specs.declared.cmp.Ordering.TheVariants.{Less}
use Rattle.std.specs.Ordering.{nat_cmp}
use Rattle.std.specs.Cmp.Lexicographic.{slice_cmp}
use Rattle.fleet_observe.specs.Members.{IsAscending}
use Rattle.fleet_observe.proofs.Lists.{ascending_one, ascending_pair, pair_ascending, less_from, not_less}
use Rattle.fleet_observe.proofs.observation.values.are_ascending.Goals as goal
use mathlib.Core.Bool.{false≢true}

pub returns-then-is_ge : goal.returns-then-is_ge
returns-then-is_ge g c = (
  λ h. absurd (false≢true h),
  λ all.
      let x = c.index-rdatas-i.result in
      let y = c.index-rdatas-i-in-loop-i.result in
      let less : slice_cmp nat_cmp x y ≡ Less = pair_ascending c.args.rdatas.now c.loop-i.i x y
      (omega arith) (omega arith) c.index-rdatas-i.is c.index-rdatas-i-in-loop-i.is all in
      let same : c.cmp.result ≡ slice_cmp nat_cmp x y = cc in
      absurd (not_less c.cmp.result (sym c.if-is_ge.ensures) (same ∙ less)),
)

pub loop-i-preserved : goal.loop-i-preserved
loop-i-preserved g c = λ rest.
    let x = c.index-rdatas-i.result in
    let y = c.index-rdatas-i-in-loop-i.result in
    let less : c.cmp.result ≡ Less = less_from c.cmp.result (sym c.if-is_ge.ensures) in
    let same : c.cmp.result ≡ slice_cmp nat_cmp x y = cc in
    let back : c.loop-i.i + 1 - 1 ≡ c.loop-i.i = omega arith in
    let there : IsAscending (drop c.loop-i.i c.args.rdatas.now) =
    (let P : ℕ → Type 0 = λ n. IsAscending (drop n c.args.rdatas.now) in subst P back rest) in
    c.loop-i.invariant (ascending_pair c.args.rdatas.now c.loop-i.i x y (omega arith) (omega arith)
    c.index-rdatas-i.is c.index-rdatas-i-in-loop-i.is (sym same ∙ less) there)

pub returns : goal.returns
returns g c = (
  λ _. c.loop-i.invariant (ascending_one (drop (c.loop-i.i - 1) c.args.rdatas.now)
      (omega (arith, length-drop (c.loop-i.i - 1) c.args.rdatas.now))),
  λ _. refl,
)
