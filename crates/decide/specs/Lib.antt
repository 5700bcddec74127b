pub mod Decision
pub mod Spanning
pub mod Marking
pub mod Verifiers
