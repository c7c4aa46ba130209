-- What an answer says, without where its parts lie in memory.
-- Serves `Cache::answer`, `Cache::answer_lent`.
use Rattle.std.specs.Prelude.{List, [], Option}
use Rattle.fleet_cache.specs.Answer.{AnswerData, ShownData, Missed, Found as FoundPlain, NoData as NoDataPlain, NxDomain as NxDomainPlain}
use Rattle.fleet_cache.specs.declared.answer.Answer.{Answer}
use Rattle.fleet_cache.specs.declared.answer.Answer.TheVariants.{Found, NoData, NxDomain, Miss}
use Rattle.fleet_cache.specs.Shown.{shown_parts}

-- what an answer says, as plain data
abbrev pub answer_data : {A : Type 0} → Answer A → AnswerData
answer_data (Found chain set) = FoundPlain (shown_parts chain.items) set
answer_data (NoData chain soa) = NoDataPlain (shown_parts chain.items) soa
answer_data (NxDomain chain soa) = NxDomainPlain (shown_parts chain.items) soa
answer_data Miss = Missed

-- the links of an answer, as they lie in it; a miss has none
abbrev pub chain_of : {A : Type 0} → Answer A → List (Option ShownData)
chain_of (Found chain set) = chain.items
chain_of (NoData chain soa) = chain.items
chain_of (NxDomain chain soa) = chain.items
chain_of Miss = []
