pub mod View
pub mod Opening
pub mod Bars
pub mod Standing
pub mod Placings
pub mod Resolving
pub mod Settling
pub mod Guessing
pub mod Barring
pub use Rattle.decision_law.specs as decision_law_specs
