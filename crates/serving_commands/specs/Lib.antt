pub mod Beginnings
pub mod Recording
pub mod Told
