use Rattle.std.proofs.Common.{◌≡◌, ap, subst, ◌∙◌}
use Rattle.history_file.specs.Event.{Recording}
use Rattle.nfs_history.specs.Answers.{IsErrorOf}
use Rattle.nfs_history.specs.FirstFault.{FirstFaultOf}
use Rattle.history_prefix.specs.Keeping.{prefix_of}
use Rattle.history_prefix.specs.Marks.{kept_recording}
use Rattle.history_prefix.proofs.Kept.{within_kept}
use Rattle.history_prefix.proofs.file.prefix_of.Goals as goal

pub returns-clause-found : goal.returns-clause-found
returns-clause-found c =
    let same : kept_recording c.args.history.now c.as_slice.result.now ≡ prefix_of c.args.history.now c.args.last = ap (kept_recording c.args.history.now) c.as_slice.ensures.value ∙ within_kept c.args.history.now c.args.last c.in_ok-marks.marks.items c.in_ok-marks.ensures in
    rw same at c.kept_history.ensures.found

pub returns-clause-fault : goal.returns-clause-fault
returns-clause-fault c =
    let same : kept_recording c.args.history.now c.as_slice.result.now ≡ prefix_of c.args.history.now c.args.last = ap (kept_recording c.args.history.now) c.as_slice.ensures.value ∙ within_kept c.args.history.now c.args.last c.in_ok-marks.marks.items c.in_ok-marks.ensures in
    subst (λ (s : Recording). IsErrorOf (FirstFaultOf s.events) c.kept_history.result) same c.kept_history.ensures.fault
