pub mod Frame
pub mod Flush
pub mod Merge
pub mod Sweep
