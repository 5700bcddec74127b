pub mod Noting
pub mod Sending
pub mod Receiving
pub mod Standing
pub mod Hearing
pub mod Words
pub mod Telling
pub mod Waiting
