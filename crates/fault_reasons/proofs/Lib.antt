pub mod Behind
pub mod Taken
pub mod Told
pub mod Spots
pub mod Found
