-- For the prover, and for callers.
-- What is told where a prefix is written (words of this project's own).
use Rattle.std.specs.Prelude.{ℕ, List, [], ◌∷◌, ◌++◌, codes, decimal}

-- how many events it has
abbrev pub events_line : ℕ → List ℕ
events_line count = codes "events " ++ decimal count ++ 10 ∷ []
