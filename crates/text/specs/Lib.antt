pub mod Units
pub mod Text
pub mod WellFormed
pub mod Conversion
