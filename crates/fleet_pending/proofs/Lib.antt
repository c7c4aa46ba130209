pub mod Placed
pub mod WaitersKept
pub mod Keeping
pub mod FreeId
pub mod FirstDue
pub mod Table
pub mod AskingUsesQueryId
pub mod RefusalsAreExact
pub mod SettlingGivesItsEntry
pub mod WaitersStay
pub mod DueCount
pub mod Unchanged
mod Soonest
pub mod Lemmas
