use Rattle.std.proofs.Common.{◌<◌, slice_get, sym, ap, ◌∙◌, arith}
use Rattle.std.specs.List.{list_any}
use Rattle.fleet_name.specs.Name.{wire}
use Rattle.fleet_observe.specs.Members.{Has}
use Rattle.fleet_observe.specs.Observation.{ObservationData}
use Rattle.fleet_cache.specs.Cut.{is_hidden}
use Rattle.fleet_cache.specs.Live.{is_live}
use Rattle.fleet_cache.proofs.Looked.{first_has, key_cut, twice}
use Rattle.fleet_cache.proofs.IsStale.{unended_lives, none_of}
use Rattle.fleet_cache.proofs.reclaim.is_stale.Goals as goal

pub returns-then-not-flushes-clause-unended : goal.returns-then-not-flushes-clause-unended
returns-then-not-flushes-clause-unended g c e o h =
    let ends = c.soonest.ensures o h in
    omega (arith, c.if-soonest-value.false, c.value.ensures.value, ends)

pub returns-then-not-may_flush_any-clause-unended : goal.returns-then-not-may_flush_any-clause-unended
returns-then-not-may_flush_any-clause-unended g c e o h =
    let ends = c.soonest.ensures o h in
    omega (arith, c.if-soonest-value.false, c.value.ensures.value, ends)

pub returns-then-not-may_flush_any-clause-live : goal.returns-then-not-may_flush_any-clause-live
returns-then-not-may_flush_any-clause-live g c e with_flushes =
    let before : c.args.now < c.soonest.result =
    omega (arith, c.if-soonest-value.false, c.value.ensures.value) in
    unended_lives c.args.held.now c.args.front.now c.soonest.result c.args.now
    c.may_flush_any.ensures.own.lawful (c.may_flush_any.ensures.none c.if-not-may_flush_any.true)
    c.soonest.ensures before

pub returns-clause-unended : goal.returns-clause-unended
returns-clause-unended g c e o h =
    let ends = c.soonest.ensures o h in
    omega (arith, c.if-soonest-value.false, c.value.ensures.value, ends)

pub returns-clause-live : goal.returns-clause-live
returns-clause-live g c none with_flushes o h =
    let items = c.args.held.now in
    let t = c.args.now in
    let front = c.args.front.now in
    let x = c.in-Some.first.now in
    let found = c.requires.1 in
    let first : Has front x = first_has front x (c.in-Some.ensures.value
    ∙ ap (λ v. slice_get v 0) c.items.ensures.items) in
    let named = c.octets.ensures.octets ∙ ap wire (c.name.ensures.value
    ∙ ap (λ (y : ObservationData). y.name) c.observation.ensures) in
    let cuts = key_cut items c.requires.0 front found c.may_flush_any.ensures.own.lawful x first t
    c.cut_at-cut.result (c.cut_at-cut.ensures.cut x.name named) in
    let shown = none_of (is_hidden c.cut_at-cut.result) front
    (sym (ap (list_any (is_hidden c.cut_at-cut.result)) c.items-2.ensures.items)
    ∙ (sym c.hides_any.ensures ∙ none)) o h in
    twice (is_live items t o) (sym (cuts o (found.member o h) (found.keyed o h)) ∙ shown)
