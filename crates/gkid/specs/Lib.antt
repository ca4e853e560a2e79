pub mod Identifier
pub mod Conversion
pub mod Start
pub mod Older
