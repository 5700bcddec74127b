pub mod Without
pub mod Kept
pub mod Stood
pub mod Attributes
pub mod Example
