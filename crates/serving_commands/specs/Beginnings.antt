-- For the prover, and for callers.
-- What a server begins with, as the head of a history says it (this project's own).
use Rattle.std.specs.Prelude.{◌≡◌}
use Rattle.tree_starts.specs.Head.{Head}
use Rattle.serving_commands.specs.declared.beginning.Beginning.{Beginning}

-- these objects, under this profile
pub record IsBeginningOf (head : Head) (beginning : Beginning) : Type 0 where
  pub profile : beginning.profile ≡ head.profile
  pub start : beginning.start ≡ head.start
