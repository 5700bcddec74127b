use Rattle.std.proofs.Common.{◌≡◌, ◌<◌, ℕ, true, false, get_or}
use Rattle.std.specs.Int.{w64, to_be_bytes}
use Rattle.tree_handles.specs.Agreement.{agrees}
use Rattle.tree_handles.proofs.agreement.all_own_agree.Given as goal

-- each handle that was looked at agrees
abbrev pub invariant-loop-number : goal.invariant-loop-number
invariant-loop-number l = (k : ℕ) → k < l.number → get_or l.taken k false ≡ true → agrees l.binds l.other (to_be_bytes w64 k) ≡ true
