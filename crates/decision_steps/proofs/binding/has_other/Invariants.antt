use Rattle.std.proofs.Common.{◌≡◌, drop}
use Rattle.decision_steps.specs.Bound.{has_other}
use Rattle.decision_steps.specs.Listed.{given_pairs}
use Rattle.decision_steps.proofs.binding.has_other.Given as goal

-- those that are left decide
abbrev pub invariant-loop-one : goal.invariant-loop-one
invariant-loop-one l = has_other l.binds (given_pairs l.given) ≡ has_other l.binds (given_pairs (drop l.one-index l.given))
