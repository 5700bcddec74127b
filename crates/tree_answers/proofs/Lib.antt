pub mod Naming
pub mod Distinct
pub mod Standing
pub use Rattle.tree_handles.proofs as tree_handles_laws
