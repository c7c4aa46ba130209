-- What fails after the first numbers of an entry.
-- Serves `read_entry`, `read_head`, `known_negative_size`, `known_positive_size`,
-- `read_known_entry`, `to_made`.
use Rattle.std.proofs.Common.{◌≡◌, ℕ, List, ◌++◌, refl, sym, ap, ◌∙◌, Bor}
use Rattle.fleet_name.specs.Name.{wire, IsWire}
use Rattle.fleet_wire.specs.Number.{u16_octets, u32_octets}
use Rattle.fleet_observe.specs.declared.observation.kind.Kind.{Kind}
use Rattle.fleet_observe.specs.Checks.{IsRankOf, IsLifeOf, IsTypeOf}
use Rattle.fleet_observe.specs.Observation.{ObservationData, IsObservation, kind_number}
use Rattle.fleet_gossip.specs.Entry.{octet, u64_octets, entry_octets, IsKindIn, IsMoment, AreBodyOctets}
use Rattle.fleet_gossip.specs.Faults.{behind, behind_name, BodyFails, EntryFails}
use Rattle.fleet_gossip.specs.steps.Reading.{IsField, IsKindAt, IsHead, IsPart}
use Rattle.fleet_gossip.specs.steps.EntryOf.{IsEntryOf}
use Rattle.fleet_gossip.specs.declared.fault.FrameFault.{FrameFault}
use Rattle.fleet_gossip.specs.declared.head.Head.{Head}
use Rattle.fleet_gossip.proofs.EntryLines.{NamedFails, TypeFails, LifeFails, StampFails, RankFails}
use Rattle.fleet_gossip.proofs.Entries.{fact_of, entry_split}

module _ (octets rest : List ℕ) (f : FrameFault) where
  pub behind_kind : (version : ℕ) (kind : Kind) → IsKindAt version octets kind rest
      → RankFails kind rest f → EntryFails version octets f
  behind_kind version kind is h =
      behind (kind_number kind) rest is.whole (kind, refl, is.known) (kind, refl, h)

  pub behind_rank : (kind : Kind) (rank : ℕ) → IsField octet (IsRankOf kind) octets rank rest
      → StampFails kind rest f → RankFails kind octets f
  behind_rank kind rank is h = behind rank rest is.whole is.lawful h

  pub behind_stamp : (kind : Kind) (stamp : ℕ) → IsField u64_octets IsMoment octets stamp rest
      → LifeFails kind rest f → StampFails kind octets f
  behind_stamp kind stamp is h = behind stamp rest is.whole is.lawful h

  pub behind_life : (kind : Kind) (life : ℕ) → IsField u32_octets (IsLifeOf kind) octets life rest
      → NamedFails kind rest f → LifeFails kind octets f
  behind_life kind life is h = behind life rest is.whole is.lawful h

pub behind_head : (version : ℕ) (octets rest : List ℕ) (f : FrameFault) (head : Head)
    → IsHead version octets head rest → NamedFails head.kind rest f → EntryFails version octets f
behind_head version octets rest f head is h =
    behind_kind octets _ f version head.kind (record { whole = is.whole; known = is.lawful.kind })
    (behind head.rank _ refl is.lawful.rank
    (behind head.stamp _ refl is.lawful.stamp
    (behind head.life rest refl is.lawful.life h)))

-- An entry from its name on.
module _ (version : ℕ) (octets named part typed : List ℕ) (head : Head)
    (is : IsHead version octets head named)
    (at : IsPart IsWire named part typed) where
  pub name_lies : named ≡ wire at.lawful.name ++ typed
  name_lies = at.whole ∙ ap (λ (x : List ℕ). x ++ typed) at.lawful.whole

  pub type_fails : (f : FrameFault) → TypeFails head.kind at.lawful.name typed f
      → EntryFails version octets f
  type_fails f h = behind_head version octets named f head is
      (behind_name at.lawful.name typed name_lies at.lawful.named h)

  module _ (rest : List ℕ) (rtype : ℕ) (t : IsField u16_octets (IsTypeOf head.kind) typed rtype
      rest) where
    pub body_fails : (f : FrameFault) → BodyFails head.kind at.lawful.name rtype rest f
        → EntryFails version octets f
    body_fails f h = type_fails f (behind rtype rest t.whole t.lawful h)

    module _ (body left : List ℕ)
        (b : IsPart (AreBodyOctets head.kind at.lawful.name rtype) rest body left) where
      -- the observation that is there
      pub fact_read : ObservationData
      fact_read = record {
        kind = head.kind;
        name = at.lawful.name;
        rtype = rtype;
        body = body;
        rank = head.rank;
        stamp = head.stamp;
        life = head.life;
      }

      fact_lawful : IsObservation fact_read
      unfolding fact_read
      fact_lawful = fact_of fact_read (record {
        rank = is.lawful.rank;
        stamp = is.lawful.stamp;
        life = is.lawful.life;
        name = at.lawful.named;
        rtype = t.lawful;
        body = b.lawful;
      })

      pub fact_whole : octets ≡ entry_octets fact_read ++ left
      unfolding fact_read
      fact_whole =
          let tail : named ≡ wire at.lawful.name ++ (u16_octets rtype ++ (body ++ left)) =
          name_lies ∙ ap (λ (x : List ℕ). wire at.lawful.name ++ x)
          (t.whole ∙ ap (λ (x : List ℕ). u16_octets rtype ++ x) b.whole) in
          is.whole ∙ (ap (λ (x : List ℕ). octet (kind_number head.kind)
          ++ (octet head.rank ++ (u64_octets head.stamp ++ (u32_octets head.life ++ x)))) tail
          ∙ sym (entry_split fact_read left))

      pub kind_read : IsKindIn version fact_read.kind
      unfolding fact_read
      kind_read = is.lawful.kind

      pub entry_read : (name_ref body_ref : Bor (List ℕ)) → name_ref.now ≡ part
          → body_ref.now ≡ body → IsEntryOf (record {
            head = head;
            name = name_ref;
            rtype = rtype;
            body = body_ref;
          }) fact_read
      unfolding fact_read
      entry_read name_ref body_ref n e = record {
        lawful = fact_lawful;
        kind = refl;
        rank = refl;
        stamp = refl;
        life = refl;
        named = n ∙ at.lawful.whole;
        rtype = refl;
        body = e;
      }
