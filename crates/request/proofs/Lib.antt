pub mod Signs
pub mod Requests
