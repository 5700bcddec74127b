-- For the prover.
-- Grammars of nfs3_values that a crate above opens in its proofs.
unfoldable pub use Rattle.nfs3_values.specs.Calls.{write_arguments, commit_arguments}
unfoldable pub use Rattle.nfs3_values.specs.Bytes.{handle, file_data}
