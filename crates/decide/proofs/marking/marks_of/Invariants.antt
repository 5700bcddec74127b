use Rattle.std.proofs.Common.{◌≡◌, length}
use Rattle.decide.proofs.Lasting.{MarkedIn}
use Rattle.decide.proofs.marking.marks_of.Given as goal

-- each call that is marked so far lasts
abbrev pub invariant-loop-index : goal.invariant-loop-index
invariant-loop-index l = (length l.marks.items ≡ l.index) × MarkedIn l.history.known.calls l.marks.items
