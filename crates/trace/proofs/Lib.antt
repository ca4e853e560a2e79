pub mod Bits
pub mod Fields
pub mod Signed
pub mod Reading
pub mod ExactlyWhen
