use Rattle.nfs_history.proofs.judging.judged_call.Goals as goal

pub unreachable-requires : goal.unreachable-requires
unreachable-requires c = c.in_default.ensures.only c.requires.0.0 c.requires.0.1
