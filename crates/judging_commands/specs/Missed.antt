-- For the prover, and for callers.
-- What is said where a search found no certificate (words of this project's own).
use Rattle.std.specs.Prelude.{◌⊎◌, ℕ, Bool, true, false, List, [], ◌∷◌, ◌++◌, codes, Option}
use Rattle.std.specs.Io.KnownBytes.{Appends}
use Rattle.json_reports.specs.declared.searches.SearchMiss.{SearchMiss}
use Rattle.json_reports.specs.Words.{miss_line}
use Rattle.judging_commands.specs.declared.search.Miss.{Miss}
use Rattle.judging_commands.specs.declared.search.Miss.TheVariants as misses

-- that nothing more was left to try, or that a worker stopped with something left
abbrev pub IsMissed : Option (List ℕ) → Option (List ℕ) → Type 0
IsMissed old new = Appends old new (codes "not found" ++ 10 ∷ []) ⊎ Appends old new (codes "out of turns" ++ 10 ∷ [])

-- the same as a JSON object, where it is also told that the time was over
abbrev pub IsMissedAsJson : Option (List ℕ) → Option (List ℕ) → Type 0
IsMissedAsJson old new = (miss : SearchMiss) × Appends old new (miss_line miss)

-- as an object, or as a line
abbrev pub IsMissedAs : Bool → Option (List ℕ) → Option (List ℕ) → Type 0
IsMissedAs true old new = IsMissedAsJson old new
IsMissedAs false old new = IsMissed old new

-- the bytes were refused, or memory ran out
abbrev pub IsRefusal : Miss → Type 0
IsRefusal (misses.BadHistory fault) = Unit {0}
IsRefusal misses.NoMemory = Unit {0}
IsRefusal misses.NotFound = ⊥
IsRefusal misses.OutOfTurns = ⊥
IsRefusal misses.OutOfTime = ⊥
