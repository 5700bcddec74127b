use Rattle.std.proofs.Common.{take}
use Rattle.cut_check.specs.Shown.{IsShown}
use Rattle.cut_check.proofs.verifier.shown_of.Given as goal

abbrev pub invariant-loop-place : goal.invariant-loop-place
invariant-loop-place l = IsShown l.history.calls (take l.place-index l.places) l.shown
