pub mod Strips
pub mod Parts
pub mod Explained
