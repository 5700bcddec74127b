pub mod Rows
pub mod Holding
pub mod Fills
pub mod Chains
pub mod Puttings
