pub mod Answering
pub mod Mounted
pub mod Waiting
pub mod Streams
