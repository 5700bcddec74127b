pub mod Known
pub mod Given
pub mod Bound
pub mod Listed
pub mod Standing
pub mod Placing
pub mod FaultText
pub mod Differing
