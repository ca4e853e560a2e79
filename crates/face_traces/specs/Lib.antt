pub mod Records
pub mod Totals
pub mod Replays
