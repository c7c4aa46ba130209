use Rattle.std.proofs.Common.{◌≡◌, ◌∙◌, append_assoc, refl}
use Rattle.fleet_observe.specs.Observations.{link_observations, end_observations, ns_observations, reply_observations}
use Rattle.fleet_observe.proofs.Kept.{observed_lawful, some_back}
use Rattle.fleet_observe.proofs.Results.{if_err}
use Rattle.fleet_observe.proofs.reply.observations.observations.Goals as goal

pub returns-in_err-put_ns-clause-memory : goal.returns-in_err-put_ns-clause-memory
returns-in_err-put_ns-clause-memory g c =
    let d = c.args.digest.now in let t = c.args.stamp in
    if_err _ _ (some_back (link_observations d.aa d.name t d.chain) _
    (some_back (end_observations d t d.end) (ns_observations t d.ns)
    c.in_err-put_ns.ensures.memory))

pub returns-clause-observed : goal.returns-clause-observed
returns-clause-observed g c =
    c.in_ok-put_ns.ensures.added
    ∙ rw (
      c.in_ok-put_end.ensures.added,
      c.in_ok-put_links.ensures.added,
      c.new-out.ensures.items,
      append_assoc,
    ) refl

pub returns-clause-lawful : goal.returns-clause-lawful
returns-clause-lawful g c =
    let d = c.args.digest.now in let t = c.args.stamp in
    let is : c.put_ns.new.out.items ≡ reply_observations d t =
    c.in_ok-put_ns.ensures.added
    ∙ rw (
      c.in_ok-put_end.ensures.added,
      c.in_ok-put_links.ensures.added,
      c.new-out.ensures.items,
      append_assoc,
    ) refl in
    rw is (observed_lawful d t c.put_ns.ensures.lawful
    (rw c.value.ensures.value at c.value.ensures.bounded))
