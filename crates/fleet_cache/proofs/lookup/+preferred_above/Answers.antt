use Rattle.std.proofs.Common.{inl, inr, arith}
use Rattle.fleet_observe.specs.declared.observation.kind.Kind.TheVariants.{NameError, Flush}
use Rattle.fleet_cache.specs.Live.{lasts, is_live}
use Rattle.fleet_cache.specs.steps.Best.{IsBest, IsAbove, referent}
use Rattle.fleet_cache.proofs.Past.{moment_shows, flush_shows}
use Rattle.fleet_cache.proofs.Climbing.{parent_wired, parent_shorter, at_top, one_up}
use Rattle.fleet_cache.proofs.lookup.+preferred_above.Goals as goal

pub returns-in_default-clause-flush : goal.returns-in_default-clause-flush
returns-in_default-clause-flush g k c n e of =
    let items = c.args.held.now in
    let t = c.args.now in
    at_top (lasts t) Flush items n (referent c.preferred_of-own.result)
    (λ o h is under. c.in_default.ensures.up n e o h (inr is) under)
    (c.preferred_of-own.ensures items n (lasts t) of (moment_shows t items n c.at.result c.at.ensures))

pub returns-in_default-clause-denial : goal.returns-in_default-clause-denial
returns-in_default-clause-denial g k c n e of denials =
    let items = c.args.held.now in
    let t = c.args.now in
    let here = referent c.preferred_of-own.result in
    let top = at_top (lasts t) Flush items n here
    (λ o h is under. c.in_default.ensures.up n e o h (inr is) under)
    (c.preferred_of-own.ensures items n (lasts t) of (moment_shows t items n c.at.result c.at.ensures)) in
    at_top (is_live items t) NameError items n (referent c.preferred_of-denial.result)
    (λ o h is under. c.in_default.ensures.up n e o h (inl is) under)
    (c.preferred_of-denial.ensures items n (is_live items t) denials
    (flush_shows t items n here c.cut_by.result c.next_above.ensures.own.lawful c.cut_by.ensures
    top))

pub heads-requires : goal.heads-requires
heads-requires g k c = parent_wired c.requires.name c.in-Some.next.now
    (c.in-Some.ensures.up c.requires.name c.requires.whole)

pub preferred_above-above-requires : goal.preferred_above-above-requires
preferred_above-above-requires g k c κs within =
    let w = c.requires in
    let up = c.in-Some.ensures.up w.name w.whole in
    let less = parent_shorter c.args.name.now w.name c.in-Some.next.now w.whole up in
    (omega (arith, less, c.decreases), (within, parent_wired w.name c.in-Some.next.now up))

pub returns-clause-flush : goal.returns-clause-flush
returns-clause-flush g k c n e of =
    let items = c.args.held.now in
    let t = c.args.now in
    let p = c.in-Some.ensures.up n e in
    one_up (lasts t) Flush items n c.in-Some.next.now p
    (referent c.preferred_of-own.result) (referent c.preferred_above-above.result.flush)
    (referent c.better_of-flush.result) c.better_of-flush.ensures
    (c.preferred_of-own.ensures items n (lasts t) of (moment_shows t items n c.at.result c.at.ensures))
    (c.preferred_above-above.ensures.flush p.rest p.whole (c.heads.ensures.flushes p.rest p.whole))

pub returns-clause-denial : goal.returns-clause-denial
returns-clause-denial g k c n e of denials =
    let items = c.args.held.now in
    let t = c.args.now in
    let p = c.in-Some.ensures.up n e in
    let flush = referent c.better_of-flush.result in
    let flushes = c.heads.ensures.flushes p.rest p.whole in
    let top : IsBest (IsAbove (lasts t) Flush n) items flush =
    one_up (lasts t) Flush items n c.in-Some.next.now p
    (referent c.preferred_of-own.result) (referent c.preferred_above-above.result.flush) flush
    c.better_of-flush.ensures
    (c.preferred_of-own.ensures items n (lasts t) of (moment_shows t items n c.at.result c.at.ensures))
    (c.preferred_above-above.ensures.flush p.rest p.whole flushes) in
    one_up (is_live items t) NameError items n c.in-Some.next.now p
    (referent c.preferred_of-nearest.result) (referent c.preferred_above-above.result.denial)
    (referent c.better_of-denial.result) c.better_of-denial.ensures
    (c.preferred_of-nearest.ensures items n (is_live items t) denials
    (flush_shows t items n flush c.cut_by-2.result c.next_above.ensures.own.lawful
    c.cut_by-2.ensures top))
    (c.preferred_above-above.ensures.denial p.rest p.whole flushes
    (c.heads.ensures.denials p.rest p.whole))
