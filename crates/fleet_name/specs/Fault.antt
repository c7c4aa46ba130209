-- Why a label can't be added to a name, and what a call reports of several faults.
-- Serves `Name::push`; `OrMemory` serves what reads and writes messages and frames.
use Rattle.std.specs.Prelude.{◌≡◌, ◌⊎◌, ◌+◌, length, Option, Some, None, if◌then◌else◌, nat_eq, nat_lt}
use Rattle.fleet_name.specs.Types.{Label, Labels}
use Rattle.fleet_name.specs.Name.{wire}
use Rattle.fleet_name.specs.declared.bounds.TheConstants.{LONGEST_LABEL, LONGEST_NAME}
use Rattle.fleet_name.specs.declared.fault.NameFault.{NameFault}
use Rattle.fleet_name.specs.declared.fault.NameFault.TheVariants.{EmptyLabel, LongLabel, LongName, OutOfMemory}

-- the first fault of a label that is to be added at the end of a name, if any: it is empty, it is
-- too long, or the name would be (RFC 1035 2.3.4)
abbrev pub push_fault : Labels → Label → Option NameFault
push_fault name label =
    if nat_eq (length label) 0 then Some EmptyLabel else
    if nat_lt LONGEST_LABEL (length label) then Some LongLabel else
    if nat_lt LONGEST_NAME (length (wire name) + length label + 1) then Some LongName else None

-- the fault that is reported is the first one, and out of memory only where there is none
abbrev pub IsFirst : NameFault → Option NameFault → Type 0
IsFirst fault first = (first ≡ Some fault) ⊎ ((fault ≡ OutOfMemory) × (first ≡ None))

-- what a call with the faults F reports: out of memory, or the first fault
abbrev pub OrMemory : {F : Type 0} → F → F → Type 0 → Type 0
OrMemory memory f First = (f ≡ memory) ⊎ First
