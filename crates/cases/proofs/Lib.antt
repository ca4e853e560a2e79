pub mod Building
pub mod Comparing
