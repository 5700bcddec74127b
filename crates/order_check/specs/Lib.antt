pub mod Places
pub mod Shape
pub mod FirstFault
pub mod Order
pub mod FaultText
pub mod Taking
pub use Rattle.nfs_history.specs as nfs_history_specs
