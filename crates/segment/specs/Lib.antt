pub mod Layout
pub mod Reading
pub mod WellFormed
pub mod Writing
