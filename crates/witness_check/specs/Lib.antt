pub mod Run
pub mod Running
pub mod Faults
pub mod FaultText
pub mod Witness
pub mod Verdict
pub mod Stop
pub mod Told
