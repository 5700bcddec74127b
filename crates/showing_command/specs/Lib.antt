pub mod Shown
pub use Rattle.judging_commands.specs as judging_commands_specs
