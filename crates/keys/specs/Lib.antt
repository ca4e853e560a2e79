pub mod KeyRule
pub mod WellFormed
pub mod Forms
pub mod Published
