-- How many items pass a test: at most all.
use Rattle.std.specs.Prelude.{Bool, ◌≤◌, List, length, count_by}
use Rattle.std.proofs.lemmas.List.Sums.{count_by-le-length}

pub within : {X : Type 0} → (p : X → Bool) → (xs : List X) → count_by p xs ≤ length xs
within p xs = count_by-le-length p xs
