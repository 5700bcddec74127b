use Rattle.std.proofs.Common.{◌≡◌, List, Some, length, sym, subst}
use Rattle.tree_handles.specs.Binding.{Bindings}
use Rattle.file_tree.specs.Setting.{next_in}
use Rattle.file_tree.specs.StartTree.{start_tree}
use Rattle.replay_law.specs.Run.{state_after}
use Rattle.certificate.specs.declared.plan.EraPlan.{EraPlan}
use Rattle.witness_check.specs.Run.{next_of, base_of}
use Rattle.fault_reasons.specs.Reason.{IsSpot, steps_behind}
use Rattle.fault_reasons.specs.Running.{IsStuckAt}
use Rattle.fault_reasons.proofs.Spots.{reached, stuck_there, has_era, has_spot}
use Rattle.fault_reasons.proofs.explaining.illegal_place.Goals as goal

pub illegal_at-requires-clause-tree : goal.illegal_at-requires-clause-tree
illegal_at-requires-clause-tree c =
    let history = c.args.history.now in
    let plan = c.args.certificate.now in
    let spot = c.in-Some-spot_of.spot in
    let steps = steps_behind history.calls spot.ahead.now spot.front.now in
    let is_spot : IsSpot plan.eras spot.ahead.now spot.front.now spot.place = subst (λ (es : List EraPlan). IsSpot es spot.ahead.now spot.front.now spot.place) c.as_slice.ensures c.in-Some-spot_of.ensures.spot in
    let there = reached (next_of history plan) (base_of history) c.args.stop.tree history.calls plan.eras c.args.stop.number c.requires.0.0.once c.requires.1
    spot.ahead.now spot.front.now spot.place is_spot c.in-Some-spot_of.ensures.named in
    subst (λ (b : Bindings). state_after (next_in history.head.profile (length history.head.start) b) (start_tree history.head.start) steps ≡ Some c.args.stop.tree) (sym c.in_ok-binds.ensures) there

pub illegal_at-requires-clause-stuck : goal.illegal_at-requires-clause-stuck
illegal_at-requires-clause-stuck c =
    let history = c.args.history.now in
    let plan = c.args.certificate.now in
    let spot = c.in-Some-spot_of.spot in
    let is_spot : IsSpot plan.eras spot.ahead.now spot.front.now spot.place = subst (λ (es : List EraPlan). IsSpot es spot.ahead.now spot.front.now spot.place) c.as_slice.ensures c.in-Some-spot_of.ensures.spot in
    let there = stuck_there (next_of history plan) (base_of history) c.args.stop.tree history.calls plan.eras c.args.stop.number c.requires.0.0.once c.requires.1
    spot.ahead.now spot.front.now spot.place is_spot c.in-Some-spot_of.ensures.named in
    subst (λ (b : Bindings). IsStuckAt (next_in history.head.profile (length history.head.start) b) history.calls spot.place c.args.stop.tree) (sym c.in_ok-binds.ensures) there

pub returns-in_default-spot_of-clause-some : goal.returns-in_default-spot_of-clause-some
returns-in_default-spot_of-clause-some c =
    let history = c.args.history.now in
    let plan = c.args.certificate.now in
    absurd (has_spot (next_of history plan) (base_of history) c.args.stop.tree history.calls plan.eras c.args.stop.number c.requires.0.0.of_their_eras c.requires.1
    c.as_slice.result.now c.in-Some.era c.era.result c.spot_of.result c.as_slice.ensures c.era.ensures c.in-Some.is c.spot_of.ensures.finds c.in_default-spot_of.not-Some)

pub returns-in_default-clause-some : goal.returns-in_default-clause-some
returns-in_default-clause-some c =
    let history = c.args.history.now in
    let plan = c.args.certificate.now in
    absurd (has_era (next_of history plan) (base_of history) c.args.stop.tree history.calls plan.eras c.args.stop.number c.requires.0.0.of_their_eras c.requires.1
    c.era.result c.era.ensures c.in_default.not-Some)
