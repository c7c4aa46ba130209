use Rattle.fleet_cache.proofs.KeysHoldFew.{cached_apart, held_apart, key_holds, denial_holds}
use Rattle.fleet_cache.proofs.laws.keys_hold_few.Goals as goal

pub returns-clause-observations : goal.returns-clause-observations
returns-clause-observations c s items floor p cached =
    key_holds items (cached_apart s items floor cached) p

pub returns-clause-denials : goal.returns-clause-denials
returns-clause-denials c s items floor p denies cached =
    denial_holds items (cached_apart s items floor cached) p denies

pub returns-clause-memory : goal.returns-clause-memory
returns-clause-memory c items p held = (
  key_holds items (held_apart items held) p,
  λ denies. denial_holds items (held_apart items held) p denies,
)
