pub mod Rows
pub mod Made
pub mod Joining
pub mod Feeding
pub mod Noted
pub mod Numbered
