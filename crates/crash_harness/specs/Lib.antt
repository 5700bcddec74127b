pub use Rattle.journal_server.specs as journal_server_specs
