pub mod Order
pub mod Times
pub mod NextOlder
