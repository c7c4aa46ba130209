use Rattle.std.proofs.Common.{◌<◌, inl, inr, length, take, ap, sym, ◌∙◌, refl, subst, arith}
use mathlib.Core.Bool.{false≢true}
use Rattle.fleet_observe.specs.Members.{Has}
use Rattle.fleet_observe.specs.RrSet.{RrSetData}
use Rattle.fleet_observe.specs.DigestOf.{owners_of}
use Rattle.std.proofs.lemmas.List.{take_more}
use Rattle.fleet_observe.proofs.Lists.{has_push, has_at}
use Rattle.fleet_observe.proofs.Owners.{owners_of-append, owner_listed}
use Rattle.fleet_observe.proofs.reply.authority.owns.Goals as goal

pub returns-then-same : goal.returns-then-same
returns-then-same g c =
    let xs = c.args.sets.now in let i = c.loop-set.set-index in
    let within : i < length xs = omega arith in (
      λ _. subst (Has (owners_of xs)) (sym (ap (λ (x : RrSetData). x.name) c.set.view_is)
          ∙ c.same.ensures.0 c.if-same.true)
          (owner_listed xs _ (has_at xs i c.set-item.result within c.set-item.is)),
      λ _. refl,
    )

pub loop-set-preserved : goal.loop-set-preserved
loop-set-preserved g c h =
    let xs = c.args.sets.now in let i = c.loop-set.set-index in
    let within : i < length xs = omega arith in
    elim (has_push (owners_of (take i xs)) c.set-item.result.name c.args.owner.now
    (rw (take_more xs i c.set-item.result within, ← c.set-item.is, owners_of-append) at h)) [
      | inl a ↦ c.loop-set.invariant a
      | inr e ↦ false≢true (sym c.if-same.false ∙ c.same.ensures.1 (ap (λ (x : RrSetData). x.name)
          c.set.view_is ∙ e))
    ]
