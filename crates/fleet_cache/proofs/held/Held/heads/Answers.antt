use Rattle.std.proofs.Common.{length, ap}
use Rattle.fleet_observe.specs.declared.observation.kind.Kind.TheVariants.{NameError, Flush}
use Rattle.fleet_cache.proofs.Looked.{unnoted_of_name}
use Rattle.fleet_cache.proofs.held.Held.heads.Goals as goal

pub returns-then-may_deny-clause-denials : goal.returns-then-may_deny-clause-denials
returns-then-may_deny-clause-denials g c n e = c.at.ensures.of_name n NameError e

pub returns-then-may_deny-clause-flushes : goal.returns-then-may_deny-clause-flushes
returns-then-may_deny-clause-flushes g c n e = c.at.ensures.of_name n Flush e

pub returns-then-may_flush-clause-denials : goal.returns-then-may_flush-clause-denials
returns-then-may_flush-clause-denials g c n e = c.at-then-may_flush.ensures.of_name n NameError e

pub returns-then-may_flush-clause-flushes : goal.returns-then-may_flush-clause-flushes
returns-then-may_flush-clause-flushes g c n e = c.at-then-may_flush.ensures.of_name n Flush e

pub returns-clause-denials : goal.returns-clause-denials
returns-clause-denials g c n e = unnoted_of_name NameError (length c.args.name.now) c.args.self.now n
    (c.may_deny.ensures c.if-may_deny.false) (ap length e)

pub returns-clause-flushes : goal.returns-clause-flushes
returns-clause-flushes g c n e = unnoted_of_name Flush (length c.args.name.now) c.args.self.now n
    (c.may_flush.ensures.none c.if-may_flush.false) (ap length e)
