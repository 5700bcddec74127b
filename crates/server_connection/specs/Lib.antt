pub mod Serving
pub mod Steps
