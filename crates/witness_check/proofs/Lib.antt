pub mod Steps
pub mod Stops
pub mod Ends
pub mod OneCut
pub mod OneVerdict
pub mod OnlyVerdict
pub mod Tells
