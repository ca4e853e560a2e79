pub mod Reach
pub mod Serving
pub mod Choice
