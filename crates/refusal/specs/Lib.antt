pub mod Outcome
pub mod Number
pub mod Chain
