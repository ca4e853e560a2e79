pub mod Reached
pub mod Bits
pub mod Maps
pub mod Reaches
