use Rattle.std.proofs.Common.{◌≡◌, ◌≤◌, ◌-◌, ◌*◌, ◌++◌, length}
use Rattle.fleet_cache.specs.declared.words.TheConstants.{MOST_WORDS, WORD_OCTETS}
use Rattle.fleet_cache.specs.steps.Packed.{octet_words_within}
use Rattle.fleet_cache.proofs.words.pack.Given as goal

abbrev pub invariant-loop-first : goal.invariant-loop-first
invariant-loop-first l = (octet_words_within MOST_WORDS l.octets ≡ l.words.items
    ++ octet_words_within (MOST_WORDS - length l.words.items) l.rest)
    × (length l.rest ≤ WORD_OCTETS * (MOST_WORDS - length l.words.items))

abbrev pub decreases-loop-first : goal.decreases-loop-first
decreases-loop-first l = length l.rest
