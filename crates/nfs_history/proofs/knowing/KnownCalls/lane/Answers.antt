use Rattle.nfs_history.proofs.Rereading.{lane_at}
use Rattle.nfs_history.proofs.knowing.KnownCalls.lane.Goals as goal

pub returns-in-Some : goal.returns-in-Some
returns-in-Some c = lane_at c.args.self.now.calls c.args.number c.in-Some.call.now (rw c.in-Some.is at c.seen_call.ensures.value)
