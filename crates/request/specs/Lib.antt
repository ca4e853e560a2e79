pub mod Indices
pub mod Narrowed
