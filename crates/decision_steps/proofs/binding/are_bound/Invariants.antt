use Rattle.std.proofs.Common.{◌≡◌, drop}
use Rattle.decision_steps.specs.Bound.{are_bound}
use Rattle.decision_steps.specs.Listed.{given_pairs}
use Rattle.decision_steps.proofs.binding.are_bound.Given as goal

-- those that are left decide
abbrev pub invariant-loop-one : goal.invariant-loop-one
invariant-loop-one l = are_bound l.binds (given_pairs l.given) ≡ are_bound l.binds (given_pairs (drop l.one-index l.given))
