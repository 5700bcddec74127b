use Rattle.std.proofs.Common.{length}
use Rattle.nfs_tap.proofs.Forwarding.{HasForwarded}
use Rattle.nfs_tap.proofs.pump.forward_waiting.Given as goal

abbrev pub invariant-loop-content : goal.invariant-loop-content
invariant-loop-content g l = HasForwarded (g.W.Write.contents l.fn.writer) (g.W.Write.contents l.writer) l.fn.feed l.feed

abbrev pub decreases-loop-content : goal.decreases-loop-content
decreases-loop-content g l = length l.feed.waiting
