pub mod Idle
pub mod Answers
pub mod Noting
