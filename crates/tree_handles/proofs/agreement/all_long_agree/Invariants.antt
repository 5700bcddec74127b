use Rattle.std.proofs.Common.{◌≡◌, ◌<◌, ℕ, List, Some, None, get_or, slice_get, map}
use Rattle.tree_handles.specs.Agreement.{AgreesAt}
use Rattle.tree_handles.proofs.agreement.all_long_agree.Given as goal

-- each handle that was looked at agrees
abbrev pub invariant-loop-place : goal.invariant-loop-place
invariant-loop-place l = (k : ℕ) → k < l.place → (handle : List ℕ) → slice_get (map (λ h. h.items) l.handles) k ≡ Some handle → AgreesAt l.binds l.other handle (get_or l.objects k None)
