use Rattle.std.proofs.Common.{length}
use Rattle.nfs_tap.specs.Whole.{PassesOn}
use Rattle.nfs_tap.proofs.pump.forward_front.Given as goal

abbrev pub invariant-loop-first : goal.invariant-loop-first
invariant-loop-first g l = PassesOn l.bytes l.rest (g.W.Write.contents l.fn.writer) (g.W.Write.contents l.writer)

abbrev pub decreases-loop-first : goal.decreases-loop-first
decreases-loop-first g l = length l.rest
