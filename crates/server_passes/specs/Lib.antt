pub mod FaultText
pub mod PassValue
pub mod Matching
pub mod Least
pub mod Lanes
pub mod Telling
