-- For the prover.
-- What is taken of a stream by one read: a piece, which the feed of records gets.
use Rattle.std.specs.Prelude.{◌≡◌, ◌⊎◌, ℕ, false, List, [], Option, Result, Ok, Err}
use Rattle.std.specs.Io.KnownBytes.{Consumes}
use Rattle.xdr_records.specs.Feed.{Feed, Grows, Breaks}
use Rattle.rpc_connection.specs.declared.fault.ConnectionFault.{ConnectionFault}
use Rattle.rpc_connection.specs.declared.fault.ConnectionFault.TheVariants as faults

-- the feed stays as it was, and no piece came
abbrev pub IsIdle : Feed → List ℕ → Feed → Type 0
IsIdle old piece new = (piece ≡ []) × (new ≡ old)

-- what becomes of the feed by a piece
abbrev pub IsFed : Result (Unit {0}) ConnectionFault → Feed → List ℕ → Feed → Type 0
IsFed (Ok fine) old piece new = Grows old piece new ⊎ IsIdle old piece new
IsFed (Err faults.RecordTooLong) old piece new = old.broken ≡ false → Breaks old piece new
IsFed (Err faults.NoMemory) old piece new = new ≡ old
IsFed (Err other) old piece new = IsIdle old piece new

-- a piece is read, where the reader's bytes are known, and fed
pub record Receives (result : Result (Unit {0}) ConnectionFault) (old new : Feed) (left left' : Option (List ℕ)) : Type 0 where
  pub piece : List ℕ
  pub consumed : Consumes left left' piece
  pub fed : IsFed result old piece new
