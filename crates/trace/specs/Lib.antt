pub mod Bits
pub mod Layout
pub mod Reading
pub mod WellFormed
