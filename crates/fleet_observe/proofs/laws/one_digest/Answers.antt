use Rattle.std.proofs.Common.{◌∙◌, ap, sym}
use Rattle.fleet_observe.specs.Digest.{DigestData}
use Rattle.fleet_observe.specs.Observations.{reply_observations}
use Rattle.fleet_observe.proofs.OneDigest.{meaning_is}
use Rattle.fleet_observe.proofs.laws.one_digest.Goals as goal

pub returns-clause-meaning : goal.returns-clause-meaning
returns-clause-meaning c r a b p q = meaning_is r a b p q

pub returns-clause-observed : goal.returns-clause-observed
returns-clause-observed c r stamp a b p q =
    p.are ∙ (ap (λ (d : DigestData). reply_observations d stamp) (meaning_is r p.digest q.digest
    p.meaning q.meaning) ∙ sym q.are)
