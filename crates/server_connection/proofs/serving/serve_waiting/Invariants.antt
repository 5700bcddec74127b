use Rattle.std.proofs.Common.{length}
use Rattle.server_connection.proofs.Waiting.{HasAnswered}
use Rattle.server_connection.proofs.serving.serve_waiting.Given as goal

abbrev pub invariant-loop-content : goal.invariant-loop-content
invariant-loop-content g l = HasAnswered l.export l.fn.intake l.intake l.fn.pass l.pass (g.W.Write.contents l.fn.writer) (g.W.Write.contents l.writer)

abbrev pub decreases-loop-content : goal.decreases-loop-content
decreases-loop-content g l = length l.intake.feed.waiting
