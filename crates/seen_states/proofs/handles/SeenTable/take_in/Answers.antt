use Rattle.std.proofs.Common.{rules}
use Rattle.seen_states.proofs.StepLaws.{may_join, may_compare}
use Rattle.seen_states.proofs.handles.SeenTable.take_in.Goals as goal

pub join_seat-requires : goal.join_seat-requires
join_seat-requires c = (search rules, search rules, search rules, search rules, may_join _ _ _ _ _)

pub load-requires : goal.load-requires
load-requires c = (search rules, search rules, may_compare _ _ _ _ _)
