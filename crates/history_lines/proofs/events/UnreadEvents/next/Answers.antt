-- One event more is read.
use Rattle.std.proofs.lemmas.Result.{err_from_is_err_and}
use Rattle.history_file.specs.Owning.{seen_event}
use Rattle.history_lines.proofs.LeftLaws.{one_more, one_fails}
use Rattle.history_lines.proofs.events.UnreadEvents.next.Goals as goal

pub returns-in_err-event-clause-fault : goal.returns-in_err-event-clause-fault
returns-in_err-event-clause-fault c =
    let p = err_from_is_err_and c.from_residual.result c.from_residual.ensures.1 in
    let unread = c.args.self.now in
    rw (p.1, p.2) (λ bytes start profile left. one_fails bytes start profile unread.read unread.count unread.rest.now c.in_err-event.field-0.0 c.requires (rw c.new-reader.ensures at c.in_err-event.ensures) left)

pub returns-clause-goes_on : goal.returns-clause-goes_on
returns-clause-goes_on c =
    let unread = c.args.self.now in
    λ bytes start profile left. rw c.rest-self.ensures
    (one_more bytes start profile unread.read unread.count unread.rest.now (seen_event c.in_ok-event.event) c.event.new.reader c.requires (rw c.new-reader.ensures at c.in_ok-event.ensures) left)
