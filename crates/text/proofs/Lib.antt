pub mod Units
pub mod Pairs
pub mod ExactlyWhen
pub mod Texts
pub mod Conversion
