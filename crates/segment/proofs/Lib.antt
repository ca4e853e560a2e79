pub mod Reading
pub mod ExactlyWhen
pub mod Blocks
pub mod Writing
pub mod ReadBack
