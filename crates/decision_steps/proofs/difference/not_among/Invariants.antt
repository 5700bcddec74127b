use Rattle.std.proofs.Common.{◌≡◌, ◌⊎◌, ℕ, Contains, ◌<◌, get_or}
use Rattle.decision_steps.proofs.difference.not_among.Given as goal

-- those that were passed are among the second, or there
abbrev pub invariant-loop-object : goal.invariant-loop-object
invariant-loop-object l = (o k : ℕ) → k < l.object-index → get_or l.others k o ≡ o → Contains l.objects o ⊎ Contains l.rest.items o
