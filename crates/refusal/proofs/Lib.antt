pub mod Numbers
pub mod Chains
