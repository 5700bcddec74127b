pub mod Numbers
pub mod Places
pub mod Streams
pub mod Orders
