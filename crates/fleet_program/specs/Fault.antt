-- What is said of an event that was not done whole.
-- Serves `run_script`.
use Rattle.fleet_world.specs.declared.fault.WorldFault.{WorldFault}
use Rattle.fleet_world.specs.declared.fault.WorldFault.TheVariants.{NoSite, NoFrame, Memory, FramesLost}
use Rattle.fleet_program.specs.declared.fault.LineFault.{LineFault}
use Rattle.fleet_program.specs.declared.fault.LineFault.TheVariants.{NoSuchSite, NoSuchFrame, OutOfMemory}

-- the fault of a line whose event was not done whole; whatever memory ran out for is `OutOfMemory`
abbrev pub line_fault_of : {A : Type 0} → WorldFault A → LineFault
line_fault_of NoSite = NoSuchSite
line_fault_of NoFrame = NoSuchFrame
line_fault_of (Memory taken) = OutOfMemory
line_fault_of (FramesLost stepped) = OutOfMemory
