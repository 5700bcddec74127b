pub mod Procedures
pub mod Limits
pub mod Numbers
pub mod Short
