pub mod Asked
pub mod RenameCauses
pub mod Causes
pub mod Failure
pub mod Look
pub mod Listing
pub mod Held
pub use Rattle.tree_handles.specs as tree_handles_specs
