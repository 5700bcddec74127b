pub mod Answers
pub mod Receiving
pub mod Sending
pub mod Words
