-- For the prover, and for callers.
-- The last WRITE at each byte of an object, as the program keeps it (a form of this project's own).
use Rattle.std.specs.Prelude.{◌≡◌, ℕ, ◌<◌, ◌≤◌, ◌^◌}
use Rattle.std.specs.Ordering.{nat_cmp}
use Rattle.std.specs.BTreeMap.{get}
use Rattle.cut_check.specs.declared.last_writes.LastWrites.{LastWrites}
use Rattle.cut_check.specs.Boundaries.{shown}

-- the position at a byte
abbrev pub position_at : LastWrites → ℕ → ℕ
position_at writes byte = shown (get nat_cmp writes.boundaries) byte

-- the bytes from the first to the last got this position, no other byte did, and this is the greatest that one of them had
pub record IsPainted (old new : LastWrites) (first last position greatest : ℕ) : Type 0 where
  pub inside : (byte : ℕ) → first ≤ byte → byte ≤ last → position_at new byte ≡ position
  pub ahead : (byte : ℕ) → byte < first → position_at new byte ≡ position_at old byte
  pub behind : (byte : ℕ) → last < byte → byte < 2 ^ 64 → position_at new byte ≡ position_at old byte
  pub bound : (byte : ℕ) → first ≤ byte → byte ≤ last → position_at old byte ≤ greatest
  pub had : 0 < greatest → (byte : ℕ) × (first ≤ byte) × (byte ≤ last) × (position_at old byte ≡ greatest)
