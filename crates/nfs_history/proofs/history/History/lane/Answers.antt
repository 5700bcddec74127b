use Rattle.std.proofs.Common.{subst}
use Rattle.history_file.specs.Owning.{all_happened}
use Rattle.nfs_history.specs.HistoryValue.{HistoryValue}
use Rattle.nfs_history.specs.Inside.{value_of}
use Rattle.nfs_history.specs.Standing.{IsLaneState}
use Rattle.nfs_history.proofs.LaneStates.{lane_stands}
use Rattle.nfs_history.proofs.history.History.lane.Goals as goal

pub returns : goal.returns
returns c =
    let stands = lane_stands (all_happened (value_of c.self.inside).events) c.self.inside.open_calls c.args.lane c.self.invariant.0.knows in
    subst (λ (v : HistoryValue). IsLaneState c.args.lane (all_happened v.events) c.lane.result) c.self.view_is (rw c.lane.ensures stands)
