-- For the prover.
-- What a window holds: what the code's private functions say to the prover.
use Rattle.std.specs.Prelude.{ℕ, List}

-- the bytes that were read and wait, and how many more the next read may bring
pub record Pending : Type 0 where
  pub bytes : List ℕ
  pub room : ℕ
