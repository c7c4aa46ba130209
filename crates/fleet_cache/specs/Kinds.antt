-- The kinds of an answer's parts.
-- Serves `Cache::answer`, `Cache::answer_lent`.
use Rattle.std.specs.Prelude.{◌≡◌, List, [], ◌∷◌}
use Rattle.fleet_observe.specs.declared.observation.kind.Kind.TheVariants.{NameError, NoData as KindNoData, Positive}
use Rattle.fleet_cache.specs.Answer.{ShownData, AnswerData, Missed, Found, NoData, NxDomain}

-- a part that has records
abbrev pub IsPositivePart : ShownData → Type 0
IsPositivePart p = p.observation.kind ≡ Positive

-- parts that all have records
abbrev pub ArePositiveParts : List ShownData → Type 0
ArePositiveParts [] = Unit {0}
ArePositiveParts (p ∷ ps) = IsPositivePart p × ArePositiveParts ps

-- links and set have records, and an SOA says no data or a name error as its answer does (RFC 2308 2.1,
-- 2.2)
abbrev pub HasKinds : AnswerData → Type 0
HasKinds Missed = Unit {0}
HasKinds (Found chain set) = ArePositiveParts chain × IsPositivePart set
HasKinds (NoData chain soa) = ArePositiveParts chain × (soa.observation.kind ≡ KindNoData)
HasKinds (NxDomain chain soa) = ArePositiveParts chain × (soa.observation.kind ≡ NameError)
