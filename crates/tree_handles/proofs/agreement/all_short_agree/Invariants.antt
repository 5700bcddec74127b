use Rattle.std.proofs.Common.{◌≡◌, ◌<◌, ℕ, List, Some, None, get_or, slice_get}
use Rattle.tree_handles.specs.Agreement.{AgreesAt}
use Rattle.tree_handles.proofs.agreement.all_short_agree.Given as goal

-- each handle that was looked at agrees
abbrev pub invariant-loop-place : goal.invariant-loop-place
invariant-loop-place l = (k : ℕ) → k < l.place → (handle : List ℕ) → slice_get l.handles k ≡ Some handle → AgreesAt l.binds l.other handle (get_or l.objects k None)
