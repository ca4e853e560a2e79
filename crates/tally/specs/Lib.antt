pub mod Totals
pub mod Merging
