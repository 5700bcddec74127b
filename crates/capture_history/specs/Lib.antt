pub mod Streams
pub mod Lanes
pub mod Imports
pub mod Inside
pub mod Noting
