use Rattle.std.proofs.Common.{◌++◌, sym, ap, ◌∙◌}
use Rattle.std.specs.Option.{option_to_list}
use Rattle.server_passes.specs.Lanes.{answered_on}
use Rattle.server_passes.proofs.LaneSteps.{filter_map_more}
use Rattle.server_passes.proofs.lanes.LaneCalls.of_calls.Goals as goal

pub loop-call-preserved : goal.loop-call-preserved
loop-call-preserved c = λ lane.
    c.in_ok-take_in.ensures lane
    ∙ ap (λ calls. calls ++ option_to_list (answered_on lane c.call-item.result)) (c.loop-call.invariant lane)
    ∙ sym (filter_map_more (answered_on lane) c.args.calls.now c.loop-call.call-index c.call-item.result c.loop-call-test.true c.call-item.is)
