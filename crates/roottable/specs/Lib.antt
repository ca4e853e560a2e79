pub mod Rows
pub mod Selection
pub mod Passing
