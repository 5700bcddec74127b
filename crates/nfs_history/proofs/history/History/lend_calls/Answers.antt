use Rattle.std.proofs.Common.{ap, ◌∙◌}
use Rattle.history_file.specs.Owning.{all_happened}
use Rattle.nfs_history.specs.HistoryValue.{HistoryValue}
use Rattle.nfs_history.specs.History.{recording_of}
use Rattle.nfs_history.proofs.OneHistory.{known_once}
use Rattle.nfs_history.proofs.history.History.lend_calls.Goals as goal

pub returns-in-Ok : goal.returns-in-Ok
returns-in-Ok c =
    let events = ap all_happened c.events.ensures.shown in
    let head = c.in_ok-head.ensures ∙ ap (λ (h : HistoryValue). h.known.head) c.self.view_is in
    let found = rw (events, head) at c.in-Ok.ensures.found in
    known_once (recording_of c.args.self.now) c.in-Ok.known c.args.self.now.known found c.events.ensures.whole.known
