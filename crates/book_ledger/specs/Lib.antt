pub mod FaultText
pub mod JoinedFaults
pub mod Recordable
pub mod Serving
pub mod Refusals
pub mod Sending
pub mod Spelling
pub mod Turns
pub mod Inside
pub mod Undoing
pub mod PlaceSteps
pub use Rattle.book_laws.specs as book_laws_specs
