use Rattle.std.proofs.Common.{◌≡◌, false, take}
use Rattle.std.specs.List.{list_any}
use Rattle.cut_check.specs.Verifier.{writes_bytes_at}
use Rattle.cut_check.proofs.verifier.any_writes.Given as goal

abbrev pub invariant-loop-place : goal.invariant-loop-place
invariant-loop-place l = list_any (writes_bytes_at l.history.calls) (take l.place-index l.places) ≡ false
