use Rattle.std.proofs.Common.{arith}
use Rattle.fleet_gossip.proofs.PackSteps.{count_small, octets_fit, hold_more, hold_next}
use Rattle.fleet_gossip.proofs.packer.Packer.add.Goals as goal
use Rattle.fleet_gossip.proofs.packer.Packer.add.Goals.{then-len-entry_size-gt-LONGEST_FRAME+in_ok-close, else-len-entry_size-gt-LONGEST_FRAME}

pub overflow_add-self : goal.overflow_add-self
overflow_add-self g c = elim c.if-len-entry_size-gt-LONGEST_FRAME.branch [
  | then-len-entry_size-gt-LONGEST_FRAME+in_ok-close w ↦ rw (w.self-is, w.in_ok-close.ensures.count)
      (omega arith)
  | else-len-entry_size-gt-LONGEST_FRAME w ↦ rw w.self-is
      (omega (arith, count_small _ _ _ _ c.requires.1, octets_fit _ _ _ _ c.requires.1))
]

pub returns : goal.returns
returns g c taken hold = elim c.if-len-entry_size-gt-LONGEST_FRAME.branch [
  | then-len-entry_size-gt-LONGEST_FRAME+in_ok-close w ↦
      let wrote = rw (w.self-is, w.in_ok-close.ensures.entries) at c.in_ok-push_entry.ensures in
      let size = c.entry_size.ensures in
      rw (w.self-is, w.in_ok-close.ensures.count)
      (hold_next _ _ _ taken hold c.args.observation.now size.lawful _ _
      w.in_ok-close.ensures.frames wrote (omega
      (arith, size.value, c.len.ensures, c.args.self.now.entries.ok.0))
      (omega (arith, size.value, size.bounded)))
  | else-len-entry_size-gt-LONGEST_FRAME w ↦
      let wrote = rw w.self-is at c.in_ok-push_entry.ensures in
      let size = c.entry_size.ensures in
      rw w.self-is (hold_more _ _ _ taken hold c.args.observation.now size.lawful _ wrote
      (omega (arith, size.value, c.len.ensures, c.args.self.now.entries.ok.0)))
]
