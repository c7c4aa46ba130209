use Rattle.std.proofs.Common.{IfOk, OnErr, ◌∙◌, subst}
use Rattle.std.proofs.lemmas.Result.{on_err_weaker}
use Rattle.fleet_cache.specs.Cached.{IsCovered}
use Rattle.fleet_cache.specs.steps.Held.{IsHeld, IsTaken}
use Rattle.fleet_cache.proofs.Holdings.{stored_held}
use Rattle.fleet_cache.proofs.held.Held.take.Goals as goal

pub invariant_of-self : goal.invariant_of-self
invariant_of-self g c =
    let items = c.self.inside.fronts in
    let i = c.self.invariant in
    let after = stored_held items c.store.new.self c.args.observation i.0 c.note.ensures.lawful
    c.store.result c.store.ensures.taken c.store.ensures.err in (
      after.0,
      λ o h. c.note.ensures.noted items i.1 o (after.1 o h),
      λ o h. c.note-2.ensures.noted items i.2 o (after.1 o h),
    )

pub returns-clause-own : goal.returns-clause-own
returns-clause-own g c = subst IsHeld c.self.view_is c.self.invariant.0

pub returns-clause-taken : goal.returns-clause-taken
returns-clause-taken g c = subst (λ v. IfOk c.store.result
    (IsTaken v c.store.new.self c.args.observation)) c.self.view_is c.store.ensures.taken

pub returns-clause-memory : goal.returns-clause-memory
returns-clause-memory g c = subst (λ v. OnErr c.store.result (¬ IsCovered v c.args.observation))
    c.self.view_is c.store.ensures.memory

pub returns-clause-err : goal.returns-clause-err
returns-clause-err g c = on_err_weaker c.store.result (λ same. same ∙ c.self.view_is)
    c.store.ensures.err
