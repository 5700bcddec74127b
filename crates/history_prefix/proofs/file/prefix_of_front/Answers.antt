use Rattle.history_prefix.proofs.Fronts.{cut_front}
use Rattle.history_prefix.proofs.file.prefix_of_front.Goals as goal

pub prefix_read-requires : goal.prefix_read-requires
prefix_read-requires c = cut_front c.args.bytes.now c.in-Ok.front c.args.fault c.requires c.in-Ok.ensures
