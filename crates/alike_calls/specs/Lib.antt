pub mod Alike
pub mod Writes
