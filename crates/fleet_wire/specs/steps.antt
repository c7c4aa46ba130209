pub mod NamePart
pub mod LentRecord
