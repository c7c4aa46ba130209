-- The name at a place of a message (RFC 1035 3.1, 4.1.4).
-- Serves `read_query` and `read_reply`, law `one_name`.
use Rattle.std.specs.Prelude.{◌≡◌, ◌+◌, ◌-◌, ◌*◌, ◌<◌, ◌≤◌, [], ◌∷◌, length, take, drop, slice_index}
use Rattle.fleet_name.specs.Types.{Label, Labels, OctetList}
use Rattle.fleet_wire.specs.Types.{Place}
use Rattle.fleet_name.specs.Name.{IsName, lower_all}
use Rattle.fleet_name.specs.declared.bounds.TheConstants.{LONGEST_LABEL}

-- a label is at p: its length octet, and its octets, one at least
pub record LabelAt (m : OctetList) (p : Place) (label : Label) : Type 0 where
  pub begins : p < length m
  pub counted : slice_index m p ≡ length label
  pub some : 0 < length label
  pub short : length label ≤ LONGEST_LABEL
  pub within : p + 1 + length label ≤ length m
  pub octets : label ≡ take (length label) (drop (p + 1) m)

-- a zero octet is at p
pub record EndAt (m : OctetList) (p : Place) : Type 0 where
  pub begins : p < length m
  pub zero_octet : slice_index m p ≡ 0

-- a pointer to q is at p: the top bits 11, and 14 bits
pub record PointerAt (m : OctetList) (p q : Place) : Type 0 where
  pub within : p + 1 < length m
  pub marked : 192 ≤ slice_index m p
  pub target : q ≡ (slice_index m p - 192) * 256 + slice_index m (p + 1)

-- In message m, in a run of labels begun at s, the labels of n are at p in their own case, and end
-- before e. The name ends there with a zero octet, or goes on with a label, or a pointer at p leads to
-- the rest of it. The pointer leads to a place before the beginning s of its run, not merely before p,
-- and a new run begins there: so no chain of pointers is endless.
pub data NameAt (m : OctetList) : Place → Place → Labels → Place → Type 0 where
  ends : {s p : Place} {n : Labels} {e : Place} → EndAt m p → n ≡ [] → e ≡ p + 1 → NameAt m s p n e
  goes_on : {s p : Place} {n : Labels} {e : Place} (label : Label) (rest : Labels)
      → LabelAt m p label → NameAt m s (p + 1 + length label) rest e → n ≡ label ∷ rest
      → NameAt m s p n e
  points : {s p : Place} {n : Labels} {e : Place} (q past : Place) → PointerAt m p q → q < s
      → NameAt m q q n past → e ≡ p + 2 → NameAt m s p n e

-- in message m the name n, in lower case, is at p, with its pointers followed, and ends before e
pub record ReadsName (m : OctetList) (p : Place) (n : Labels) (e : Place) : Type 0 where
  pub spelled : Labels
  pub name_at : NameAt m p p spelled e
  pub lowered : n ≡ lower_all spelled
  pub named : IsName n
