pub mod Fronts
pub mod Kept
pub mod Told
pub mod Versions
