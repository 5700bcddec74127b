pub mod Messages
pub mod Fits
pub mod SpelledMessages
pub mod Arguments
pub use Rattle.nfs3_values.specs as nfs3_values_specs
