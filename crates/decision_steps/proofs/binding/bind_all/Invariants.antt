use Rattle.std.proofs.Common.{◌≡◌, drop}
use Rattle.decision_steps.specs.Bound.{with_handles}
use Rattle.decision_steps.specs.Listed.{given_pairs}
use Rattle.decision_steps.proofs.binding.bind_all.Given as goal

-- what is left to bind makes the whole
abbrev pub invariant-loop-given : goal.invariant-loop-given
invariant-loop-given l = with_handles l.binds (given_pairs (drop l.given-index l.given)) ≡ with_handles l.initial.binds (given_pairs l.given)
