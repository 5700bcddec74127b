use Rattle.std.proofs.Common.{◌+◌, ◌*◌}
use Rattle.format_tests.proofs.threads.+claim_by_threads+fn-claim_by_threads-join+arg2+fn-claim_by_threads-join+arg3.Given as goal

abbrev pub decreases-claim_by_threads : goal.decreases-claim_by_threads
decreases-claim_by_threads g l = 2 * l.depth

abbrev pub decreases-join+arg2 : goal.decreases-join+arg2
decreases-join+arg2 g l = 2 * l.below + 1

abbrev pub decreases-join+arg3 : goal.decreases-join+arg3
decreases-join+arg3 g l = 2 * l.below + 1
