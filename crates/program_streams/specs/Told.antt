-- Believed.
-- What is said: an exit status and a line (words of this project's own).
use Rattle.std.specs.Prelude.{◌≡◌, ℕ, List, [], ◌∷◌, ◌++◌, codes, Option}
use Rattle.std.specs.Io.KnownBytes.{Appends}

-- what a report shows: the exit status, and the line with its line feed
pub record Answer : Type 0 where
  pub status : ℕ
  pub line : List ℕ

-- the line that tells why something can't be judged
abbrev pub refused_line : List ℕ → List ℕ
refused_line words = codes "refused: " ++ words ++ 10 ∷ []

abbrev pub memory_line : List ℕ
memory_line = codes "out of memory" ++ 10 ∷ []

-- what is said of a refusal
abbrev pub IsRefusal : List ℕ → ℕ → List ℕ → Type 0
IsRefusal words status line = (status ≡ 2) × (line ≡ refused_line words)

-- this status was given, and this line was written, and nothing else
abbrev pub Tells : ℕ → Option (List ℕ) → Option (List ℕ) → ℕ → List ℕ → Type 0
Tells given old new status line = (given ≡ status) × Appends old new line
