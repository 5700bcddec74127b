pub mod Fronts
pub mod Ends
pub mod Steps
pub mod Mending
pub mod Parts
pub mod EndText
