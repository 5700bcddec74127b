pub mod Mounting
pub mod Statuses
pub mod Hearing
