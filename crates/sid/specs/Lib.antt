pub mod Rule
pub mod WellFormed
