pub mod Digested
pub mod Reply
pub mod Learn
