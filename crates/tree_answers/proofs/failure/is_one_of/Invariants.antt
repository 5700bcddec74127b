use Rattle.std.proofs.Common.{◌≡◌, drop}
use Rattle.std.specs.List.{list_any}
use Rattle.tree_answers.specs.Failure.{same_status}
use Rattle.tree_answers.proofs.failure.is_one_of.Given as goal

-- the status isn't among those looked at
abbrev pub invariant-loop-status : goal.invariant-loop-status
invariant-loop-status l = list_any (same_status l.failure) l.statuses ≡ list_any (same_status l.failure) (drop l.status-index l.statuses)
