pub mod Meanings
pub mod Numbers
pub mod Growing
pub mod Records
pub mod Rebuilt
