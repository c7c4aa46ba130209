use Rattle.fleet_site.proofs.digested.digest_of.Goals as goal

pub returns-in-Ok-clause-sound : goal.returns-in-Ok-clause-sound
returns-in-Ok-clause-sound g c =
    c.digest_or_fault.ensures.sound c.args.message.now c.in-Ok.digest c.in-Ok.ensures
