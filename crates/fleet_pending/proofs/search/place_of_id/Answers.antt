use Rattle.std.proofs.Common.{ℕ, ◌≡◌, ap, sym, ◌∙◌}
use Rattle.fleet_pending.specs.PendingData.{EntryData, UsesId}
use Rattle.fleet_pending.proofs.Placed.{place_is, none_is, none_more}
use Rattle.fleet_pending.proofs.search.place_of_id.Goals as goal

pub returns-then-entry-id : goal.returns-then-entry-id
returns-then-entry-id g c =
    let e = c.index-entries-i.result in
    let same : c.entry.inside.id ≡ e.id = ap {B = ℕ} (λ (x : EntryData). x.id) c.entry.view_is in
    place_is (UsesId c.args.id) c.args.entries.now c.loop-i.i e c.loop-i-test.true
    c.index-entries-i.is (sym same ∙ c.if-entry-id.true)

pub loop-i-preserved : goal.loop-i-preserved
loop-i-preserved g c =
    let e = c.index-entries-i.result in
    let same : c.entry.inside.id ≡ e.id = ap {B = ℕ} (λ (x : EntryData). x.id) c.entry.view_is in
    none_more (λ x. UsesId c.args.id x) c.args.entries.now c.loop-i.i e c.loop-i-test.true
    c.index-entries-i.is (λ p. c.if-entry-id.false (same ∙ p)) c.loop-i.invariant

pub returns : goal.returns
returns g c =
    none_is (UsesId c.args.id) c.args.entries.now c.loop-i.i c.loop-i-test.false c.loop-i.invariant
