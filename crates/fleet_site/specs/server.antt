pub mod PortRecord
pub mod MemoryPort
pub mod Sending
pub mod Turn
pub mod Served
pub mod Replies
pub mod Answered
pub mod Clients
