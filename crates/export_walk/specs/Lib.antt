pub mod Noted
pub mod Hearing
pub mod Walking
