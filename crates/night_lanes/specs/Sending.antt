-- For the prover, and for callers.
-- What is sent of the bytes that wait.
use Rattle.std.specs.Prelude.{◌≡◌, ◌≤◌, ℕ, List, length, take, drop, Option}
use Rattle.std.specs.Io.KnownBytes.{Appends}

-- a front of the bytes that wait is sent, in order, and the others wait
pub record Sends (waiting waiting' : List ℕ) (held held' : Option (List ℕ)) : Type 0 where
  pub count : ℕ
  pub within : count ≤ length waiting
  pub appended : Appends held held' (take count waiting)
  pub left : waiting' ≡ drop count waiting
