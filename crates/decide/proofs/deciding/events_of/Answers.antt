use Rattle.std.proofs.Common.{◌≡◌, length, rules}
use Rattle.history_file.specs.Owning.{all_happened}
use Rattle.decide.specs.Spanning.{crash_list, all_spans}
use Rattle.decide.proofs.Walking.{events_tell}
use Rattle.decide.proofs.deciding.events_of.Goals as goal

pub returns : goal.returns
returns c =
    let history = c.args.history.now in
    let are : c.in_ok-marks.marks.items ≡ crash_list 1 (all_happened history.events) = search rules in
    let many : length c.in_ok-marks.marks.items ≡ history.known.eras = search rules in
    let spans : c.as_slice-2.result.now ≡ all_spans history.known c.in_ok-marks.marks.items = search rules in
    events_tell (λ v. v.items) history c.in_ok-marks.marks.items c.as_slice-2.result.now c.events.ensures.whole are many spans c.timeline.result c.timeline.ensures
