pub mod Basics
pub mod Cases
pub mod Counting
pub mod Results
