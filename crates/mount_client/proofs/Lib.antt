pub mod Paths
pub mod AllRead
pub mod Counted
pub mod Roots
pub mod Told
