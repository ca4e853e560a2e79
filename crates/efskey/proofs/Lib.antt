pub mod Hints
pub mod Reading
pub mod ExactlyWhen
pub mod Writing
pub mod ReadBack
