pub mod Tag
pub mod Asked
