use Rattle.fleet_gossip.proofs.take.is_passed_over.Goals as goal

pub returns-else-is_past_lent-clause-taken : goal.returns-else-is_past_lent-clause-taken
returns-else-is_past_lent-clause-taken g c = λ o s is lawful told cached.
    c.holds.ensures.taken o s is told cached
