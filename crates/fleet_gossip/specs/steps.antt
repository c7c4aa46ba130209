pub mod Reading
pub mod EntryOf
pub mod Packs
pub mod Taking
