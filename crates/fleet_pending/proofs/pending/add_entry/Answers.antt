use Rattle.fleet_pending.proofs.pending.add_entry.Goals as goal

pub returns-clause-opens : goal.returns-clause-opens
returns-clause-opens g c =
    c.enter.ensures.opens c.args.word (rw c.as_slice.ensures.value at c.first_free_id-id.ensures)
