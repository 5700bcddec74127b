pub mod Event
pub mod Limits
pub mod Kinds
pub mod Starting
pub mod HistoryFile
pub mod Owning
pub mod FileFaults
pub mod FileReading
pub mod Writing
pub mod FaultText
pub use Rattle.tree_starts.specs as tree_starts_specs
