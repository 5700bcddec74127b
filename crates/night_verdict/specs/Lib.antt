pub mod Verdict
pub mod Words
