pub mod Bundle
pub mod Report
pub mod Reported
pub mod Missed
pub mod Objects
