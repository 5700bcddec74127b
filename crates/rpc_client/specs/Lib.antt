pub mod Asking
pub mod Refusals
pub mod Words
