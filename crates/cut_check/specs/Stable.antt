-- Believed.
-- Which places of an era have to be on stable storage (RFC 1813, sections 4.7 and 4.12: what was answered is, but for a WRITE
-- that was answered UNSTABLE; section 3.3.21: a COMMIT puts such bytes there. That one byte of it makes the whole WRITE stable is
-- this project's own, and asks more than the RFC).
use Rattle.std.specs.Prelude.{◌≡◌, ◌⊎◌, ℕ, ◌+◌, ◌<◌, ◌≤◌, List, ◌∷◌, ◌++◌, length, Contains}
use Rattle.cut_check.specs.declared.effect.Effect.{Effect}
use Rattle.cut_check.specs.declared.effect.Effect.TheVariants.{Nothing, Lasting, Unstable, Committed}

-- a byte is one of so many from an offset on
abbrev pub IsAmong : ℕ → ℕ → ℕ → Type 0
IsAmong offset count byte = (offset ≤ byte) × (byte < offset + count)

-- a COMMIT of this object reaches the byte; a count of 0 reaches from the offset without end (section 3.3.21)
abbrev pub Reaches : Effect → ℕ → ℕ → Type 0
Reaches (Committed committed offset count) object byte = (committed ≡ object) × (offset ≤ byte) × ((count ≡ 0) ⊎ (byte < offset + count))
Reaches effect object byte = ⊥

-- some COMMIT behind reaches one of these bytes
abbrev pub AreCommitted : ℕ → ℕ → ℕ → List Effect → Type 0
AreCommitted object offset count behind = (commit : Effect) × Contains behind commit × ((byte : ℕ) × IsAmong offset count byte × Reaches commit object byte)

-- a place is stable, by those behind it in its era
abbrev pub IsStable : Effect → List Effect → Type 0
IsStable Lasting behind = Unit {0}
IsStable (Unstable object offset count) behind = AreCommitted object offset count behind
IsStable (Committed object offset count) behind = ⊥
IsStable Nothing behind = ⊥

-- the place at this position, from 1 on, is stable
pub record IsStableAt (effects : List Effect) (position : ℕ) : Type 0 where
  pub ahead : List Effect
  pub here : Effect
  pub behind : List Effect
  pub stands : effects ≡ ahead ++ here ∷ behind
  pub number : position ≡ length ahead + 1
  pub stable : IsStable here behind

-- the position of the last stable place, or 0 where none is
pub record IsLastStable (effects : List Effect) (position : ℕ) : Type 0 where
  pub stable : 0 < position → IsStableAt effects position
  pub last : (later : ℕ) → position < later → ¬ IsStableAt effects later
