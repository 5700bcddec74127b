pub mod Packets
pub mod Reading
