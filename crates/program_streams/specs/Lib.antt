pub mod Digits
pub mod Streams
pub mod Told
