pub mod Fronts
pub mod LowerHex
pub mod Pieces
