pub mod Names
pub mod Start
pub mod Head
pub mod Seen
pub mod FaultText
pub use Rattle.nfs3_types.specs as nfs3_types_specs
