pub mod Reading
pub mod Stepping
pub mod Walking
pub mod WellFormed
pub mod Passing
