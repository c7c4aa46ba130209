use Rattle.std.proofs.Common.{◌<◌, ◌∙◌, inl, inr, length, take, sym, refl, subst, arith}
use mathlib.Core.Bool.{false≢true}
use Rattle.std.proofs.lemmas.Slice.Eq.{slice_eq-Decides}
use Rattle.std.proofs.lemmas.Bool.Decides.{Decides-eqb}
use Rattle.fleet_observe.specs.Members.{Has}
use Rattle.std.proofs.lemmas.List.{take_more}
use Rattle.fleet_observe.proofs.Lists.{has_push, has_at}
use Rattle.fleet_observe.proofs.reply.rrset.holds.Goals as goal

pub returns-then-eq : goal.returns-then-eq
returns-then-eq g c =
    let xs = c.args.rdatas.now in let i = c.loop-held.held-index in
    let within : i < length xs = omega arith in
    let d = slice_eq-Decides Decides-eqb c.as_slice.result.now c.args.rdata.now _ refl in
    let same = sym c.as_slice.ensures ∙ d.0 (sym c.eq.ensures ∙ c.if-eq.true) in
    (λ _. subst (Has xs) same (has_at xs i c.held-item.result within c.held-item.is), λ _. refl)

pub loop-held-preserved : goal.loop-held-preserved
loop-held-preserved g c h =
    let xs = c.args.rdatas.now in let i = c.loop-held.held-index in
    let within : i < length xs = omega arith in
    let d = slice_eq-Decides Decides-eqb c.as_slice.result.now c.args.rdata.now _ refl in
    elim (has_push (take i xs) c.held-item.result c.args.rdata.now
    (rw (take_more xs i c.held-item.result within, ← c.held-item.is) at h)) [
      | inl a ↦ c.loop-held.invariant a
      | inr e ↦ false≢true (sym (sym c.eq.ensures ∙ c.if-eq.false) ∙ d.1 (c.as_slice.ensures ∙ e))
    ]
