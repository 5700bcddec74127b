use Rattle.std.proofs.Common.{ℕ, sym, subst}
use Rattle.server_passes.specs.Lanes.{calls_on, exchanges_in}
use Rattle.server_passes.specs.Least.{IsLeast}
use Rattle.server_passes.specs.Matching.{IsTorn}
use Rattle.server_passes.proofs.LaneSteps.{table_is}
use Rattle.server_passes.proofs.TornLaws.{least_torn_is}
use Rattle.server_passes.proofs.matching.least_torn.Goals as goal

pub returns : goal.returns
returns c =
    let history = c.args.history.now in
    let lanes = c.in_ok-lanes.lanes in
    let events = c.events.result.now in
    subst (IsLeast (IsTorn history c.args.passes.now)) (sym c.least_of.ensures)
    (least_torn_is history c.args.passes.now (λ (lane : ℕ). exchanges_in events (calls_on lanes lane)) c.in_ok-twice.twice c.least_other-other.result
    (table_is history events c.recorded_calls.result.now lanes c.events.ensures.shown c.recorded_calls.ensures c.in_ok-lanes.ensures) c.in_ok-twice.ensures c.least_other-other.ensures)
