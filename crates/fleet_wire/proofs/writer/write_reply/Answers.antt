use Rattle.std.proofs.Common.{◌++◌, ◌∙◌, List, ℕ, ap, arith}
use Rattle.fleet_wire.specs.Outline.{whole_octets, cut_octets}
use Rattle.fleet_wire.proofs.Written.{reads_back}
use Rattle.fleet_wire.proofs.Outlines.{written_whole, written_cut}
use Rattle.fleet_wire.proofs.writer.write_reply.Goals as goal

pub returns-in_default-clause-octets : goal.returns-in_default-clause-octets
returns-in_default-clause-octets g c =
    let o = c.args.outline.now in
    c.in_ok-push_cut.ensures
    ∙ (ap (λ (x : List ℕ). x ++ cut_octets o) c.in_ok-octets.ensures.items
    ∙ written_cut o c.in_default.ensures.size)

pub returns-in_default-clause-reads_back : goal.returns-in_default-clause-reads_back
returns-in_default-clause-reads_back g c q is =
    rw (returns-in_default-clause-octets g c)
    (reads_back c.args.outline.now q c.size_of.ensures.lawful is)

pub returns-clause-octets : goal.returns-clause-octets
returns-clause-octets g c =
    let o = c.args.outline.now in
    let fits = c.in-Some.ensures in
    c.in_ok-push_whole.ensures
    ∙ (ap (λ (x : List ℕ). x ++ whole_octets o) c.in_ok-octets-2.ensures.items
    ∙ written_whole o (omega (arith, fits.size, fits.short)))

pub returns-clause-reads_back : goal.returns-clause-reads_back
returns-clause-reads_back g c q is =
    rw (returns-clause-octets g c)
    (reads_back c.args.outline.now q c.size_of.ensures.lawful is)
