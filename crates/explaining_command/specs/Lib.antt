pub mod Explained
pub mod Found
pub use Rattle.deciding_command.specs as deciding_command_specs
