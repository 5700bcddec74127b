pub mod Binding
pub mod Kind
pub mod Live
pub mod Entry
pub mod Standing
pub mod Places
pub mod Finding
pub mod Agreement
pub use Rattle.tree_nodes.specs as tree_nodes_specs
