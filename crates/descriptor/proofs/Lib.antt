pub mod Items
pub mod ExactlyWhen
