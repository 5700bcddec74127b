use Rattle.nfs_history.proofs.knowing.KnownCalls.call.Goals as goal

pub read_again-requires : goal.read_again-requires
read_again-requires c = rw c.in-Some.is at c.seen_call.ensures.read
