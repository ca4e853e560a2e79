pub mod ExactlyWhen
pub mod FormLaws
pub mod HouseRule
