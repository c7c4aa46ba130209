use Rattle.std.proofs.Common.{ap, arith, inl, refl, ◌-◌, ◌^◌, ◌∙◌, ◌≡◌, ◌≤◌, ℕ, length, min}
use Rattle.fleet_name.proofs.Lemmas.{at_read}
use Rattle.fleet_pending.specs.PendingData.{EntryData}
use Rattle.fleet_pending.proofs.Soonest.{least_more, least_all}
use Rattle.fleet_pending.proofs.search.soonest_of.Goals as goal

pub loop-entry-init : goal.loop-entry-init
loop-entry-init g c = record { least = λ i e l a. absurd (omega (arith, l)); of_one = inl (refl, refl) }

pub loop-entry-preserved : goal.loop-entry-preserved
loop-entry-preserved g c =
    let es = c.args.entries.now in
    let n = c.loop-entry.entry-index in
    let e = c.entry-item.result in
    let there = at_read es n e c.loop-entry-test.true c.entry-item.is in
    let same : c.entry.inside.deadline ≡ e.deadline = ap {B = ℕ} (λ (x : EntryData). x.deadline) c.entry.view_is in
    least_more (2 ^ 64 - 1) es n c.loop-entry.soonest _ e there (omega (arith, same)) c.loop-entry.invariant
    (c.min-soonest.ensures ∙ ap (min c.loop-entry.soonest) same)

pub returns : goal.returns
returns g c =
    let l : length c.args.entries.now ≤ c.loop-entry.entry-index = omega arith in
    least_all (2 ^ 64 - 1) c.args.entries.now c.loop-entry.entry-index c.loop-entry.soonest l
    c.loop-entry.invariant
