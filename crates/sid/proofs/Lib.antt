pub mod ExactlyWhen
