pub mod Counted
pub mod Lost
pub mod Kinds
pub mod Noting
