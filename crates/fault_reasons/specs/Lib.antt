pub mod Reason
pub mod Running
