pub mod Yes
mod Objects
