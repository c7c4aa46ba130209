use Rattle.std.proofs.Common.{[], ◌∷◌, inl, inr, refl}
use Rattle.fleet_site.specs.server.PortRecord.{PacketSent, PacketLost}
use Rattle.fleet_site.proofs.server.send.Goals as goal

pub returns-in-Ok : goal.returns-in-Ok
returns-in-Ok g c = record {
  calls = PacketSent (record { to = c.args.to; octets = c.args.bytes.now }) ∷ [];
  made = record { noted = c.in-Ok.ensures.noted; failed = c.in-Ok.ensures.failed };
  sent = (inl refl, tt);
  report = rw c.count_one.ensures refl;
}

pub returns-in-Err : goal.returns-in-Err
returns-in-Err g c = record {
  calls = PacketLost (record { to = c.args.to; octets = c.args.bytes.now }) ∷ [];
  made = record { noted = c.in-Err.ensures.noted; failed = c.in-Err.ensures.failed };
  sent = (inr refl, tt);
  report = rw c.count_one-in-Err.ensures refl;
}
