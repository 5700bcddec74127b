use Rattle.std.proofs.Common.{take}
use Rattle.cut_check.specs.Shown.{AddsShown}
use Rattle.cut_check.proofs.verifier.add_each.Given as goal

abbrev pub invariant-loop-place : goal.invariant-loop-place
invariant-loop-place l = AddsShown l.history.calls (take l.place-index l.places) l.initial.set l.set
