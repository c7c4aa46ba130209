use Rattle.std.proofs.Common.{slice_get, sym, ap, ◌∙◌, subst}
use Rattle.fleet_name.specs.Name.{wire}
use Rattle.fleet_observe.specs.Members.{Has}
use Rattle.fleet_observe.specs.Observation.{ObservationData}
use Rattle.fleet_cache.specs.Live.{is_live}
use Rattle.fleet_cache.specs.steps.Keyed.{IsOfKey}
use Rattle.fleet_cache.proofs.Looked.{first_has, none_first, key_cut, twice}
use Rattle.fleet_cache.proofs.Holdings.{thinned_reclaimed}
use Rattle.fleet_cache.proofs.reclaim.trim.Goals as goal

pub returns : goal.returns
returns g c =
    let items = c.args.held.now in
    let t = c.args.now in
    let front = c.in-Some.front.now in
    let x = c.in-Some-first.first.now in
    let lawful = c.front.ensures.own.lawful in
    let first : Has front x = first_has front x (c.in-Some-first.ensures.value
    ∙ ap (λ v. slice_get v 0) c.items.ensures.items) in
    let named = c.octets.ensures.octets ∙ ap wire (c.name.ensures.value
    ∙ ap (λ (o : ObservationData). o.name) c.observation.ensures) in
    let cuts = key_cut items c.args.key.now.items front
    (subst (λ q. IsOfKey items q front) c.deref.ensures.value c.in-Some.ensures.found) lawful x first t
    c.cut_at-cut.result (c.cut_at-cut.ensures.cut x.name named) in
    let thin = thinned_reclaimed t items c.trim.new.self lawful (c.trim.ensures.trimmed (is_live items t)
    cuts) in
    record {
      own = c.trim.ensures.own;
      reclaimed = thin;
      live = λ o h key. twice (is_live items t o) (sym (cuts o (thin.of_items o h) key)
          ∙ c.trim.ensures.cleared o h key);
    }

pub returns-in_default-first-clause-live : goal.returns-in_default-first-clause-live
returns-in_default-first-clause-live g c o h key =
    let front = c.in-Some.front.now in
    let found : IsOfKey c.args.held.now c.args.key.now.items front =
    subst (λ q. IsOfKey c.args.held.now q front) c.deref.ensures.value c.in-Some.ensures.found in
    absurd (none_first front o (c.in_default-first.ensures.value
    ∙ ap (λ v. slice_get v 0) c.items.ensures.items) (found.whole o h key))
