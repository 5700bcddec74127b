pub mod Seen
pub mod Steps
pub mod Looks
pub mod Runs
pub mod Handles
pub mod Fingerprint
