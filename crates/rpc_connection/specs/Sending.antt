-- For the prover.
-- What is sent by one write.
use Rattle.std.specs.Prelude.{◌≡◌, ◌≤◌, ℕ, List, length, take, drop, Option}
use Rattle.std.specs.Io.KnownBytes.{Appends}

-- a front of the bytes is sent, in order, and the others are left
pub record Sends (bytes left : List ℕ) (held held' : Option (List ℕ)) : Type 0 where
  pub count : ℕ
  pub within : count ≤ length bytes
  pub appended : Appends held held' (take count bytes)
  pub rest : left ≡ drop count bytes
