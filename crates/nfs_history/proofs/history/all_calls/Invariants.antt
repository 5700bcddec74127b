use Rattle.std.proofs.Common.{◌≡◌, take}
use Rattle.nfs_history.proofs.history.all_calls.Given as goal

abbrev pub invariant-loop-index : goal.invariant-loop-index
invariant-loop-index l = l.calls.items ≡ take l.index l.known.calls
