pub mod Reaching
pub mod Choosing
pub mod HouseRule
