pub mod Printable
pub mod Left
pub mod StartShown
pub mod Lines
pub mod Shown
