pub mod BitLaws
pub mod ReachLaws
pub mod MapLaws
pub mod KeyLaws
pub mod FormLaws
pub mod SeedLaws
