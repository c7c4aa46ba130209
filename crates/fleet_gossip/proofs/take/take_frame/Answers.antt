use Rattle.std.proofs.Common.{inl, inr, refl, sym, ◌∙◌}
use Rattle.fleet_gossip.proofs.Frames.{list_or_fault}
use Rattle.fleet_gossip.proofs.FrameSteps.{spells_frame}
use Rattle.fleet_gossip.proofs.take.take_frame.Goals as goal

pub returns-in-Err-clause-taken : goal.returns-in-Err-clause-taken
returns-in-Err-clause-taken g c = record {
  fault = c.in-Err.ensures;
  unspelled = λ list is. list_or_fault c.args.octets.now list c.in-Err.fault is c.in-Err.ensures;
  same = refl;
}

pub returns-in-Ok-take_made-clause-taken : goal.returns-in-Ok-take_made-clause-taken
returns-in-Ok-take_made-clause-taken g c =
    let of = c.in-Ok.ensures in let found = c.in-Ok-to_made.ensures.made in
    record {
      list = found.list;
      spelled = spells_frame _ _ _ _ found.list of.opened of.fits found.are;
      counted = c.from.ensures ∙ sym found.are.counted;
      cached = c.in-Ok-take_made.ensures.taken found.list found.are_made;
    }

pub returns-in-Err-take_made-clause-taken : goal.returns-in-Err-take_made-clause-taken
returns-in-Err-take_made-clause-taken g c =
    let of = c.in-Ok.ensures in let found = c.in-Ok-to_made.ensures.made in
    let first = c.in-Err-take_made.ensures.taken found.list found.are_made in
    rw c.from-in-Err-take_made.ensures (inr (record {
      list = found.list;
      spelled = spells_frame _ _ _ _ found.list of.opened of.fits found.are;
      within = first.within;
      cached = first.cached;
      needed = first.needed;
    }))

pub returns-in_default-clause-taken : goal.returns-in_default-clause-taken
returns-in_default-clause-taken g c =
    let of = c.in-Ok.ensures in let told = c.in_default.ensures.memory in
    inl (record {
      list = told.list;
      spelled = spells_frame _ _ _ _ told.list of.opened of.fits told.are;
      none = refl;
      same = refl;
      unheld = told.unheld;
    })
