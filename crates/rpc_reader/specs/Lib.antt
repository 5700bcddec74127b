pub mod Values
pub mod ReplyHeads
pub mod Heads
pub mod Messages
pub mod Views
pub mod Texts
pub mod FaultText
