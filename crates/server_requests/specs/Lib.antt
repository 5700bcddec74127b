pub mod Handling
pub mod Plainly
pub mod Results
pub mod Mounting
pub mod MountPlainly
