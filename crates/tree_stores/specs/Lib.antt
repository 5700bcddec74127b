pub mod Slots
pub mod Pages
pub mod Books
pub mod Lends
pub mod Names
pub mod Padding
pub mod Stored
pub mod Places
pub mod Walks
pub mod Files
pub mod Paged
pub mod Shows
pub mod Undo
pub use Rattle.nfs3_types.specs as nfs3_types_specs
