pub mod BoundaryLaws
pub mod StableLaws
pub mod KeepsLaws
pub mod ShownLaws
pub mod EraLaws
pub mod StoredLaws
pub mod Synchronous
