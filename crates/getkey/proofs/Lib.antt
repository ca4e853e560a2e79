pub mod Decisions
pub mod RootRow
pub mod Granting
pub mod DemandThree
pub mod Described
pub mod TCases
