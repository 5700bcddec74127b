-- For the prover, and for callers.
-- What the program keeps of the places of an era that it has seen (a form of this project's own).
use Rattle.std.specs.Prelude.{◌≡◌, ◌≢◌, ℕ, ◌+◌, ◌<◌, ◌≤◌, min, List, [], ◌∷◌, ◌++◌, length}
use Rattle.std.specs.Option.{option_map_or}
use Rattle.std.specs.Ordering.{nat_cmp}
use Rattle.std.specs.BTreeMap.{BTreeMap, get}
use Rattle.cut_check.specs.declared.effect.Effect.{Effect}
use Rattle.cut_check.specs.declared.effect.Effect.TheVariants.{Unstable}
use Rattle.cut_check.specs.declared.last_writes.LastWrites.{LastWrites}
use Rattle.cut_check.specs.declared.stability.Stability.{Stability}
use Rattle.cut_check.specs.LastWrites.{position_at}
use Rattle.cut_check.specs.Stable.{IsAmong, IsLastStable}

-- the place at this position is an UNSTABLE WRITE of this byte of the object
pub record WritesAt (effects : List Effect) (position object byte : ℕ) : Type 0 where
  pub ahead : List Effect
  pub offset : ℕ
  pub count : ℕ
  pub behind : List Effect
  pub stands : effects ≡ ahead ++ Unstable object offset count ∷ behind
  pub number : position ≡ length ahead + 1
  pub written : IsAmong offset count byte

-- the position that is kept of a byte of an object
abbrev pub kept_at : BTreeMap ℕ LastWrites → ℕ → ℕ → ℕ
kept_at files object byte = option_map_or (λ writes. position_at writes byte) (get nat_cmp files object) 0

-- the last byte that an offset can name
abbrev pub last_byte : ℕ
last_byte = 18446744073709551615

-- how many places there are, the last of them that is stable, and of each byte the last WRITE of it that is UNSTABLE and stands
-- behind that one; what stands ahead of it counts no more
pub record Keeps (placed needed : ℕ) (at : ℕ → ℕ → ℕ) (effects : List Effect) : Type 0 where
  pub placed_is : placed ≡ length effects
  pub needed_is : IsLastStable effects needed
  pub are_writes : (object byte : ℕ) → byte ≤ last_byte → needed < at object byte → WritesAt effects (at object byte) object byte
  pub are_last : (position object byte : ℕ) → WritesAt effects position object byte → needed < position → position ≤ at object (min byte last_byte)

abbrev pub IsStabilityOf : Stability → List Effect → Type 0
IsStabilityOf stability effects = Keeps stability.placed stability.needed (kept_at stability.files) effects

-- what is kept of the bytes of one object from the first to the last is one position, nothing else changes, and this is the
-- greatest of the positions that were kept of them
pub record IsPaintedIn (old new : ℕ → ℕ → ℕ) (object first last position greatest : ℕ) : Type 0 where
  pub inside : (byte : ℕ) → first ≤ byte → byte ≤ last → new object byte ≡ position
  pub ahead : (byte : ℕ) → byte < first → new object byte ≡ old object byte
  pub behind : (byte : ℕ) → last < byte → byte ≤ last_byte → new object byte ≡ old object byte
  pub others : (other byte : ℕ) → other ≢ object → new other byte ≡ old other byte
  pub bound : (byte : ℕ) → first ≤ byte → byte ≤ last → old object byte ≤ greatest
  pub had : 0 < greatest → (byte : ℕ) × (first ≤ byte) × (byte ≤ last) × (old object byte ≡ greatest)

-- what is kept stays the same
abbrev pub IsSameKept : (ℕ → ℕ → ℕ) → (ℕ → ℕ → ℕ) → Type 0
IsSameKept old new = (object byte : ℕ) → new object byte ≡ old object byte

-- of any places that are kept, one more is kept
abbrev pub KeepsOneMore : ℕ → ℕ → (ℕ → ℕ → ℕ) → Effect → ℕ → (ℕ → ℕ → ℕ) → Type 0
KeepsOneMore placed needed at effect newly_needed now_at =
    (effects : List Effect) → Keeps placed needed at effects → Keeps (placed + 1) newly_needed now_at (effects ++ effect ∷ [])
