pub mod Calls
pub mod Replies
pub mod Spelled
pub mod OneMessage
