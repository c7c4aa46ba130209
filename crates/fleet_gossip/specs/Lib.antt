pub mod Entry
pub mod Frame
pub mod Faults
pub mod Packed
pub mod Taken
pub mod steps
