-- For the prover, and for callers.
-- What is taken of a stream by one read: a piece, which the feed of records gets.
use Rattle.std.specs.Prelude.{◌≡◌, ℕ, false, List, [], Option}
use Rattle.std.specs.Io.KnownBytes.{Consumes}
use Rattle.xdr_records.specs.Feed.{Feed, Grows, Breaks}
use Rattle.night_lanes.specs.declared.incoming.Arrival.{Arrival}
use Rattle.night_lanes.specs.declared.incoming.Arrival.TheVariants as arrivals

-- what becomes of the feed by a piece
abbrev pub IsFed : Arrival → Feed → List ℕ → Feed → Type 0
IsFed arrivals.Piece old piece new = Grows old piece new
IsFed arrivals.TooLong old piece new = old.broken ≡ false → Breaks old piece new
IsFed arrivals.NoMemory old piece new = new ≡ old
IsFed arrival old piece new = (piece ≡ []) × (new ≡ old)

-- a piece is read, where the reader's bytes are known, and fed
pub record Receives (arrival : Arrival) (old new : Feed) (left left' : Option (List ℕ)) : Type 0 where
  pub piece : List ℕ
  pub consumed : Consumes left left' piece
  pub fed : IsFed arrival old piece new
