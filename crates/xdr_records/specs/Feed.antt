-- For the prover, and for callers.
-- What becomes at each call of a feed of bytes with record marking (RFC 5531, section 11).
use Rattle.std.specs.Prelude.{◌≡◌, ℕ, Bool, true, false, List, [], ◌∷◌, ◌++◌}
use Rattle.xdr_records.specs.Record.{IsSplit, IsUnfinished, IsTooLong}

-- the whole records that wait, the bytes behind the last whole record, and whether a header took its record
-- past the limit, behind which no byte is kept
pub record Feed : Type 0 where
  pub waiting : List (List ℕ)
  pub rest : List ℕ
  pub broken : Bool

-- nothing was fed
abbrev pub fresh : Feed
fresh = record { waiting = []; rest = []; broken = false }

-- the feed with more records that wait, and another rest
abbrev pub fed_on : Feed → List (List ℕ) → List ℕ → Feed
fed_on old records rest = record { waiting = old.waiting ++ records; rest = rest; broken = old.broken }

-- the feed with more records that wait, and no byte taken from then on
abbrev pub stopped : Feed → List (List ℕ) → Feed
stopped old records = record { waiting = old.waiting ++ records; rest = []; broken = true }

-- the feed takes the piece: what is whole by it waits, and the rest is begun
pub record Grows (old : Feed) (piece : List ℕ) (new : Feed) : Type 0 where
  pub sound : old.broken ≡ false
  pub records : List (List ℕ)
  pub split : IsSplit IsUnfinished (old.rest ++ piece) records new.rest
  pub waiting : new.waiting ≡ old.waiting ++ records
  pub still : new.broken ≡ false

-- a header of the piece takes its record past the limit, and the records ahead of it wait
pub record Breaks (old : Feed) (piece : List ℕ) (new : Feed) : Type 0 where
  pub sound : old.broken ≡ false
  pub records : List (List ℕ)
  pub stop : List ℕ
  pub split : IsSplit IsTooLong (old.rest ++ piece) records stop
  pub now : new ≡ stopped old records

-- the first of the records that wait is taken
pub record TakesFirst (old : Feed) (content : List ℕ) (new : Feed) : Type 0 where
  pub waiting : old.waiting ≡ content ∷ new.waiting
  pub rest : new.rest ≡ old.rest
  pub broken : new.broken ≡ old.broken

-- what a feed can be behind calls of `feed` that were answered Ok and calls of `take`: the bytes fed by them, the
-- records taken by them, and the feed that they leave
pub data Run : List ℕ → List (List ℕ) → Feed → Type 0 where
  start : Run [] [] fresh
  fed : {bytes : List ℕ} {taken : List (List ℕ)} {old : Feed} (piece : List ℕ) (new : Feed) → Run bytes taken old → Grows old piece new → Run (bytes ++ piece) taken new
  took : {bytes : List ℕ} {taken : List (List ℕ)} {old : Feed} (content : List ℕ) (new : Feed) → Run bytes taken old → TakesFirst old content new → Run bytes (taken ++ content ∷ []) new
