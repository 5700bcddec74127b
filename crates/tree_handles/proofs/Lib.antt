pub mod Positions
pub mod Lookups
pub mod Losing
pub mod OwnNumbers
pub mod Standing
pub mod Paths
pub mod Walks
pub mod HandleOf
pub mod Agreeing
pub use Rattle.tree_nodes.proofs as tree_nodes_laws
