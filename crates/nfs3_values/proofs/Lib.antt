pub mod Bounds
pub mod EntryList
