pub mod Escaping
pub mod Fixed
pub mod Shapes
pub mod Pages
pub mod Reading
