pub mod FaultText
pub mod Passing
pub mod Desks
