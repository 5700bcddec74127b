pub mod Heads
pub mod Asked
pub mod Served
pub mod Replies
