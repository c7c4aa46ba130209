-- The octets of a name, `WORD_OCTETS` to a word, zero after the end, so that the words of names compare
-- as the octets do. A short name has just `SHORT_WORDS`.
-- Serves the keys of the maps below `Cache`, and where rounds of takes stand in them (`memory_follows`,
-- `memory_falls`).
use Rattle.std.specs.Prelude.{◌≡◌, ℕ, zero, suc, ◌+◌, ◌-◌, ◌*◌, ◌<◌, List, [], ◌∷◌, drop, length}
use Rattle.std.specs.List.{AllByRecursion}
use Rattle.fleet_name.specs.Types.{Labels}
use Rattle.fleet_cache.specs.declared.words.ShortKey.{ShortKey}
use Rattle.fleet_cache.specs.declared.words.TheConstants.{MOST_WORDS, SHORT_WORDS, WEIGHTS, WORD_OCTETS}
use Rattle.fleet_name.specs.Name.{wire, IsName}
use Rattle.fleet_observe.specs.Members.{Has}
use Rattle.fleet_observe.specs.Observation.{ObservationData, Observations}

-- a number whose digits are the octets, and 0 where there are no more
abbrev pub weigh : List ℕ → List ℕ → ℕ
weigh [] octets = 0
weigh (w ∷ ws) [] = 0
weigh (w ∷ ws) (x ∷ octets) = x * w + weigh ws octets

-- the words of octets, this many at most
abbrev pub octet_words_within : ℕ → List ℕ → List ℕ
octet_words_within zero octets = []
octet_words_within (suc k) [] = []
octet_words_within (suc k) (x ∷ octets) =
    weigh WEIGHTS (x ∷ octets) ∷ octet_words_within k (drop WORD_OCTETS (x ∷ octets))

-- n words, and then those of the octets that are left, this many at most
abbrev pub octet_words_from : ℕ → ℕ → List ℕ → List ℕ
octet_words_from zero k octets = octet_words_within k octets
octet_words_from (suc n) k octets =
    weigh WEIGHTS octets ∷ octet_words_from n k (drop WORD_OCTETS octets)

-- the octets of a name as words: `SHORT_WORDS` of them, or as many more as the octets need, up to
-- `MOST_WORDS`
unfoldable pub octet_words : List ℕ → List ℕ
octet_words octets = octet_words_from SHORT_WORDS (MOST_WORDS - SHORT_WORDS) octets

-- the words of an observation's name
abbrev pub words_of : ObservationData → List ℕ
words_of o = octet_words (wire o.name)

-- the words of the key of a short name
abbrev pub short_words : ShortKey → List ℕ
short_words k = k.a ∷ k.b ∷ k.c ∷ k.d ∷ []

-- none of the items is of a short name
abbrev pub AreLong : Observations → Type 0
AreLong items = (o : ObservationData) → Has items o → length (words_of o) ≡ SHORT_WORDS → ⊥

-- a name that can be packed: each of its octets in full is below 256
pub record IsPackable (name : Labels) : Type 0 where
  pub bytes : AllByRecursion (λ x. x < 256) (wire name)
  pub named : IsName name
