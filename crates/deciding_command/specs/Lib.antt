pub mod FileDecision
pub mod Told
pub mod Written
