pub mod Numbers
pub mod Chains
pub mod Results
pub mod Links
pub mod Networks
pub mod Segments
