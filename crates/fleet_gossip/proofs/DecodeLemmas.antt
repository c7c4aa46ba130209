-- No fault of octets is out of memory.
-- Serves `decode`.
use Rattle.std.proofs.Common.{◌≡◌, ℕ, List, sym, ◌∙◌, inl, inr}
use Rattle.fleet_observe.specs.declared.observation.kind.Kind.{Kind}
use Rattle.fleet_observe.specs.declared.observation.kind.Kind.TheVariants.{NameError, NoData, Positive, Flush}
use Rattle.fleet_gossip.specs.Faults.{FieldFails, cut, refused, behind, OctetsFail, cut_octets, refused_octets, FrameNameFails, label_fails, SizedFails, RdatasFail, rdata_fails, NegativeFails, owner_fails, stranger, soa_fails, BodyFails, name_fails, behind_name, EntryFails, EntriesFail, entry_fails, more_octets, FrameFails}
use Rattle.fleet_gossip.specs.declared.fault.FrameFault.{FrameFault}
use Rattle.fleet_gossip.specs.declared.fault.FrameFault.TheVariants.{TooLong, Truncated, BadName, BadBody, Trailing, OutOfMemory}
use Rattle.fleet_gossip.proofs.EntryLines.{NamedFails}

-- it is another fault than out of memory
abbrev pub IsOther : FrameFault → Type 0
IsOther f = f ≡ OutOfMemory → ⊥

is_other : (f g : FrameFault) → f ≡ g → IsOther g → IsOther f
is_other f g e other is = other (sym e ∙ is)

cut_other : IsOther Truncated
cut_other e = cc

name_other : IsOther BadName
name_other e = cc

body_other : IsOther BadBody
body_other e = cc

field_other : (spelled : ℕ → List ℕ) (size : ℕ) (Lawful : ℕ → Type 0) (refusal : FrameFault)
    (Behind : ℕ → List ℕ → FrameFault → Type 0) (octets : List ℕ) (f : FrameFault)
    → IsOther refusal → ((n : ℕ) (rest : List ℕ) → Behind n rest f → IsOther f)
    → FieldFails spelled size Lawful refusal Behind octets f → IsOther f
field_other spelled size Lawful refusal Behind octets f other further (cut short e) =
    is_other f Truncated e cut_other
field_other spelled size Lawful refusal Behind octets f other further (refused n rest is unlike e) =
    is_other f refusal e other
field_other spelled size Lawful refusal Behind octets f other further (behind n rest is lawful h) =
    further n rest h

octets_other : (Lawful : List ℕ → Type 0) (refusal : FrameFault) (size : ℕ) (octets : List ℕ)
    (f : FrameFault) → IsOther refusal → OctetsFail Lawful refusal size octets f → IsOther f
octets_other Lawful refusal size octets f other (cut_octets short e) =
    is_other f Truncated e cut_other
octets_other Lawful refusal size octets f other (refused_octets taken rest is n unlike e) =
    is_other f refusal e other

name_fault_other : (refusal : FrameFault) → IsOther refusal → (octets : List ℕ) (f : FrameFault)
    → FrameNameFails refusal octets f → IsOther f
name_fault_other refusal other octets f (label_fails before rest is named h) =
    field_other _ _ _ _ _ rest f other (λ n r k. octets_other _ refusal n r f other k) h

sized_other : (Lawful : List ℕ → Type 0) (octets : List ℕ) (f : FrameFault)
    → SizedFails Lawful octets f → IsOther f
sized_other Lawful octets f h = field_other _ _ _ _ _ octets f cut_other
    (λ n rest k. octets_other Lawful BadBody n rest f body_other k) h

rdatas_other : (rtype count : ℕ) (octets : List ℕ) (f : FrameFault)
    → RdatasFail rtype count octets f → IsOther f
rdatas_other rtype count octets f (rdata_fails before rest is first few h) = sized_other _ rest f h

negative_other : (name : List (List ℕ)) (octets : List ℕ) (f : FrameFault)
    → NegativeFails name octets f → IsOther f
negative_other name octets f (owner_fails h) = name_fault_other BadBody body_other octets f h
negative_other name octets f (stranger owner rest is named unlike e) =
    is_other f BadBody e body_other
negative_other name octets f (soa_fails owner rest is named under h) = sized_other _ rest f h

body_fault_other : (kind : Kind) (name : List (List ℕ)) (rtype : ℕ) (octets : List ℕ)
    (f : FrameFault) → BodyFails kind name rtype octets f → IsOther f
body_fault_other Positive name rtype octets f h =
    field_other _ _ _ _ _ octets f body_other (λ n rest k. rdatas_other rtype n rest f k) h
body_fault_other NoData name rtype octets f h = negative_other name octets f h
body_fault_other NameError name rtype octets f h = negative_other name octets f h
body_fault_other Flush name rtype octets f h = absurd h

named_other : (kind : Kind) (octets : List ℕ) (f : FrameFault) → NamedFails kind octets f
    → IsOther f
named_other kind octets f (name_fails h) = name_fault_other BadName name_other octets f h
named_other kind octets f (behind_name name rest is named h) =
    field_other _ _ _ _ _ rest f (λ e. cc) (λ n r k. body_fault_other kind name n r f k) h

entry_other : (version : ℕ) (octets : List ℕ) (f : FrameFault) → EntryFails version octets f
    → IsOther f
entry_other version octets f h =
    field_other _ _ _ _ _ octets f (λ e. cc)
    (λ number a is. field_other _ _ _ _ _ a f (λ e. cc)
    (λ rank b. field_other _ _ _ _ _ b f (λ e. cc)
    (λ stamp d. field_other _ _ _ _ _ d f (λ e. cc) (λ life r k. named_other is.0 r f k))) is.2) h

entries_other : (version count : ℕ) (octets : List ℕ) (f : FrameFault)
    → EntriesFail version count octets f → IsOther f
entries_other version count octets f (entry_fails list rest is lawful few h) =
    entry_other version rest f h
entries_other version count octets f (more_octets list rest is lawful n some e) =
    is_other f Trailing e (λ e'. cc)

pub fault_other : (octets : List ℕ) (f : FrameFault) → FrameFails octets f → IsOther f
fault_other octets f (inl h) = is_other f TooLong h.1 (λ e. cc)
fault_other octets f (inr h) =
    field_other _ _ _ _ _ octets f (λ e. cc)
    (λ m a. field_other _ _ _ _ _ a f (λ e. cc)
    (λ v b. field_other _ _ _ _ _ b f cut_other (λ n rest k. entries_other v n rest f k))) h.1
