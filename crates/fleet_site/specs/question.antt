pub mod AnswerRecords
pub mod Decision
pub mod Question
pub mod Looking
pub mod Handling
