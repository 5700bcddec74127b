pub mod FirstLine
pub mod Numbers
pub mod Told
pub mod Missing
