pub mod FaultText
pub mod Noting
pub mod Room
pub mod Keeping
pub mod Pumping
pub mod Waiting
pub mod Whole
