pub mod Reversible
