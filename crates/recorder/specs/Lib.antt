pub use Rattle.book_ledger.specs.book_laws_specs
pub use Rattle.book_ledger.specs as book_ledger_specs
