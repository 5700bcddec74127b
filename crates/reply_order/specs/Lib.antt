pub mod ReplyOrder
pub mod Making
