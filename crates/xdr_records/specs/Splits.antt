-- For the prover, and for callers.
-- Bytes behind a whole record, split on.
use Rattle.std.specs.Prelude.{◌≡◌, ◌≤◌, ℕ, List, ◌∷◌, length, take, Option, MatchOption}
use Rattle.xdr_records.specs.Record.{Begun, IsPart, IsTooLong, AreRecords}

-- a record that is begun, by its place and size, or a header past the limit
abbrev pub Leaves : Option (ℕ × ℕ) → List ℕ → Type 0
Leaves o bytes = MatchOption o (IsTooLong bytes) (λ begun. Begun IsPart begun.0 begun.1 bytes)

-- behind a first record the first `used` bytes are the others
pub record Follows (first : List ℕ) (bytes : List ℕ) (used : ℕ) (records : List (List ℕ)) : Type 0 where
  pub others : List (List ℕ)
  pub all : records ≡ first ∷ others
  pub within : used ≤ length bytes
  pub whole : AreRecords others (take used bytes)
