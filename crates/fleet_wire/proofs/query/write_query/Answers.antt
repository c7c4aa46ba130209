use Rattle.std.proofs.Common.{◌++◌, ◌∙◌, ap, List, ℕ}
use Rattle.fleet_wire.proofs.Written.{query_back, query_pieces}
use Rattle.fleet_wire.proofs.query.write_query.Goals as goal

pub returns-clause-octets : goal.returns-clause-octets
returns-clause-octets g c =
    let name = c.octets-name.ensures in let head = c.push_query_head.new.out.items in
    rw (← c.question.view_is)
    (query_pieces c.args.id _ _ _ _ _ _ _ _ c.in_ok-octets.ensures.items
    c.in_ok-push_query_head.ensures
    (c.in_ok-extend_from_slice.ensures.items ∙ ap (λ (x : List ℕ). head ++ x) name.octets)
    c.in_ok-push_u16.ensures c.in_ok-push_u16-2.ensures)

pub returns-clause-reads_back : goal.returns-clause-reads_back
returns-clause-reads_back g c =
    rw (returns-clause-octets g c)
    (query_back c.args.id c.args.question.now
    (rw (← c.question.view_is) c.octets-name.ensures.named))
