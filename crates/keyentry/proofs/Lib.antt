pub mod Reading
pub mod ExactlyWhen
pub mod Writing
pub mod ReadBack
pub mod Tests
