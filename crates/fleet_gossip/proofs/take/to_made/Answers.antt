use Rattle.std.proofs.Common.{◌++◌, ◌∷◌, [], List, length, inl, inr, refl, ap, ◌∙◌, subst, arith, length-append}
use Rattle.std.proofs.lemmas.List.{append-nil}
use mathlib.Core.Bool.{false≢true}
use Rattle.fleet_observe.specs.Observation.{ObservationData}
use Rattle.fleet_gossip.specs.Entry.{AreIn}
use Rattle.fleet_gossip.specs.Frame.{entries}
use Rattle.fleet_gossip.proofs.FrameSteps.{next_of, next_lawful}
use Rattle.fleet_gossip.proofs.Passing.{next_there}
use Rattle.fleet_gossip.proofs.Taking.{one_over, held_more, made_more, unheld_more, finds_all, finds_one, on_err}
use Rattle.fleet_gossip.proofs.take.to_made.Goals as goal
use Rattle.fleet_gossip.proofs.take.to_made.Goals.{then-not-passes_over+in_ok-reserve+in_ok-to_observation+in_ok-push, else-not-passes_over}

pub loop-place-init : goal.loop-place-init
loop-place-init g c = record {
  done = [];
  left = c.requires.list;
  lawful = c.requires.are.lawful;
  lawful_left = c.requires.are.lawful;
  whole = c.new-reader.ensures ∙ (c.requires.are.whole ∙ append-nil (entries c.requires.list));
  octets = c.requires.are.whole ∙ append-nil (entries c.requires.list);
  counted = refl;
  all = omega (arith, c.requires.are.counted);
  found = rw c.new-made.ensures.items (λ s cached. cached);
  unheld = inl c.new-unseen.ensures;
}

pub read_known_entry-entry-requires : goal.read_known_entry-entry-requires
read_known_entry-entry-requires g c =
    let i = c.loop-place.invariant in
    next_there _ i.left _ i.lawful_left i.whole (omega (arith, i.all, c.loop-place-test.true))

pub returns-in_err-reserve-clause-memory : goal.returns-in_err-reserve-clause-memory
returns-in_err-reserve-clause-memory g c =
    let i = c.loop-place.invariant in
    let read = c.read_known_entry-entry.ensures in
    let next = next_of _ i.left _ read.0 _ i.lawful_left i.whole
    (omega (arith, i.all, c.loop-place-test.true)) read.1.lawful read.3 in
    on_err c.from_residual.result (finds_one _ _ _ c.loop-place.place i.done i.left i.lawful
    i.octets i.counted i.all c.args.cache.now read.0 next.others next.left_is
    (unheld_more c.args.cache.now read.0 i.done c.loop-place.unseen.left i.unheld
    (λ none over. false≢true (c.if-not-passes_over.ensures.passed read.0
    (c.lent.ensures read.0 read.1) read.1.lawful none over))))

pub returns-in_err-to_observation-clause-memory : goal.returns-in_err-to_observation-clause-memory
returns-in_err-to_observation-clause-memory g c =
    let i = c.loop-place.invariant in
    let read = c.read_known_entry-entry.ensures in
    let next = next_of _ i.left _ read.0 _ i.lawful_left i.whole
    (omega (arith, i.all, c.loop-place-test.true)) read.1.lawful read.3 in
    on_err c.from_residual-in_err-to_observation.result (finds_one _ _ _ c.loop-place.place i.done
    i.left i.lawful i.octets i.counted i.all c.args.cache.now read.0 next.others next.left_is
    (unheld_more c.args.cache.now read.0 i.done c.loop-place.unseen.left i.unheld
    (λ none over. false≢true (c.if-not-passes_over.ensures.passed read.0
    (c.lent.ensures read.0 read.1) read.1.lawful none over))))

pub loop-place-preserved : goal.loop-place-preserved
loop-place-preserved g c =
    let i = c.loop-place.invariant in
    let read = c.read_known_entry-entry.ensures in
    let next = next_of _ i.left _ read.0 _ i.lawful_left i.whole
    (omega (arith, i.all, c.loop-place-test.true)) read.1.lawful read.3 in
    let over = one_over i.done i.left next.others read.0 next.left_is in
    record {
      done = i.done ++ read.0 ∷ [];
      left = next.others;
      lawful = subst (λ (v : List ObservationData). AreIn c.args.entries.now.version v) over
          i.lawful;
      lawful_left = next_lawful _ i.left read.0 next.others next.left_is i.lawful_left;
      whole = next.rest_is;
      octets = i.octets ∙ ap entries over;
      counted = omega (arith, i.counted, length-append i.done (read.0 ∷ []));
      all = omega (arith, i.all, ap length next.left_is);
      found = elim c.if-not-passes_over.branch [
        | then-not-passes_over+in_ok-reserve+in_ok-to_observation+in_ok-push w ↦
            rw (
              w.made-is,
              w.in_ok-push.ensures.items,
              w.in_ok-reserve.ensures.items,
              w.in_ok-to_observation.ensures read.0 read.1,
            )
            (made_more c.args.cache.now read.0 0 i.done c.loop-place.made.items
            c.loop-place.place i.found (omega (arith, i.counted)))
        | else-not-passes_over w ↦ rw w.made-is
            (held_more c.args.cache.now read.0 0 i.done c.loop-place.made.items i.found
            (λ s cached. w.if-not-passes_over.ensures.taken read.0 s
            (c.lent.ensures read.0 read.1) read.1.lawful refl cached))
      ];
      unheld = elim c.if-not-passes_over.branch [
        | then-not-passes_over+in_ok-reserve+in_ok-to_observation+in_ok-push w ↦
            inr (unheld_more c.args.cache.now read.0 i.done c.loop-place.unseen.left i.unheld
            (λ none over. false≢true (w.if-not-passes_over.ensures.passed read.0
            (c.lent.ensures read.0 read.1) read.1.lawful none over)))
        | else-not-passes_over w ↦ inl (w.if-not-passes_over.ensures.seen refl)
      ];
    }

pub returns-clause-made : goal.returns-clause-made
returns-clause-made g c =
    let i = c.loop-place.invariant in
    finds_all _ _ _ c.loop-place.place i.done i.left i.lawful i.octets i.counted i.all
    c.args.cache.now c.loop-place.made.items i.found c.loop-place-test.false
