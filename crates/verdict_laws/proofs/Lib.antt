pub mod Left
pub mod Numbers
pub mod Seen
pub mod Standing
pub mod Told
pub mod Checks
pub mod Begun
pub mod Applies
