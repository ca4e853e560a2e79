pub mod Lines
pub mod Chunks
pub mod Replays
pub mod Stepping
pub mod Looping
pub mod Invisible
