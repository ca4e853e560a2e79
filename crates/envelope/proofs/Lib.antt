pub mod Reading
pub mod Writing
pub mod ExactlyWhen
pub mod Forms
pub mod ReadBack
