-- For the prover.
-- The least number of which a fact holds.
use Rattle.std.specs.Prelude.{ℕ, ◌<◌, nat_le, if◌then◌else◌, Option, Some, None}

-- the number is the least of which the fact holds, and where there is none it holds of no number
abbrev pub IsLeast : (ℕ → Type 0) → Option ℕ → Type 0
IsLeast P None = (n : ℕ) → ¬ P n
IsLeast P (Some least) = P least × ((n : ℕ) → n < least → ¬ P n)

abbrev pub least_with : Option ℕ → ℕ → ℕ
least_with None lane = lane
least_with (Some other) lane = if nat_le other lane then other else lane

abbrev pub least_of : Option ℕ → Option ℕ → Option ℕ
least_of one None = one
least_of one (Some lane) = Some (least_with one lane)
