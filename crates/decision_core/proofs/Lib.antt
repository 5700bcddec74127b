pub mod Orders
pub mod Walk
pub mod Sets
pub mod Awaits
pub mod Waiting
pub mod OneEvent
pub mod SpanLaws
pub mod ErasWalk
pub mod Skipping
pub mod Past
mod ErasExample
