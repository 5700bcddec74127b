-- For the prover, and for callers.
-- A step function on bytes, by its boundaries: what the program keeps of an object's WRITEs (a form of this project's own).
use Rattle.std.specs.Prelude.{◌≡◌, ℕ, zero, suc, ◌<◌, ◌≤◌, Option, Some, None, unwrap_or}

-- the value at a byte: that of the last boundary which isn't behind it, and 0 ahead of all of them
unfoldable pub shown : (ℕ → Option ℕ) → ℕ → ℕ
shown at zero = unwrap_or (at zero) 0
shown at (suc byte) = unwrap_or (at (suc byte)) (shown at byte)

-- the boundaries show these values
abbrev pub Shows : (ℕ → Option ℕ) → (ℕ → ℕ) → Type 0
Shows at values = (byte : ℕ) → shown at byte ≡ values byte

-- there is no boundary behind the first byte and not behind the last
abbrev pub HasNoneBetween : (ℕ → Option ℕ) → ℕ → ℕ → Type 0
HasNoneBetween at first last = (byte : ℕ) → first < byte → byte ≤ last → at byte ≡ None

-- the first such boundary with its value
abbrev pub IsNextBoundary : (ℕ → Option ℕ) → ℕ → ℕ → Option (ℕ × ℕ) → Type 0
IsNextBoundary at first last None = HasNoneBetween at first last
IsNextBoundary at first last (Some boundary) = (first < boundary.0) × (boundary.0 ≤ last) × (at boundary.0 ≡ Some boundary.1)

-- all such boundaries are gone, no other is, and this is the greatest of their values
pub record IsCleared (old new : ℕ → Option ℕ) (first last greatest : ℕ) : Type 0 where
  pub gone : HasNoneBetween new first last
  pub ahead : (byte : ℕ) → byte ≤ first → new byte ≡ old byte
  pub behind : (byte : ℕ) → last < byte → new byte ≡ old byte
  pub bound : (byte : ℕ) → first < byte → byte ≤ last → unwrap_or (old byte) 0 ≤ greatest
  pub had : 0 < greatest → (byte : ℕ) × (first < byte) × (byte ≤ last) × (old byte ≡ Some greatest)
