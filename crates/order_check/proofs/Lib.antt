pub mod ShapeLaws
pub mod OrderLaws
pub mod OneEarly
pub mod TakenLaws
pub use Rattle.nfs_history.proofs as nfs_history_laws
