pub mod Register
pub mod Run
pub mod Undone
pub mod Standing
pub mod Steps
pub mod FaultText
