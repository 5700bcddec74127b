pub mod Front
pub mod Keeping
pub mod Marks
pub mod Prefix
