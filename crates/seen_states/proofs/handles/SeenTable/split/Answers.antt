use Rattle.std.proofs.Common.{rules}
use Rattle.seen_states.proofs.StepLaws.{may_split}
use Rattle.seen_states.proofs.handles.SeenTable.split.Goals as goal

pub split_seat-seat-requires : goal.split_seat-seat-requires
split_seat-seat-requires c = (search rules, search rules, may_split _ _ _)
