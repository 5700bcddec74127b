use Rattle.std.proofs.Common.{inr}
use Rattle.std.proofs.lemmas.Result.{err_from_is_err_and}
use Rattle.history_lines.proofs.lines.ShownEvents.next_line.Goals as goal

pub returns-in_err-event-clause-fault : goal.returns-in_err-event-clause-fault
returns-in_err-event-clause-fault c = λ bytes start profile left.
    let p = err_from_is_err_and c.from_residual.result c.from_residual.ensures.1 in
    rw (p.1, p.2) (inr (c.in_err-event.ensures.fault bytes start profile (c.loop-unread.invariant.goes_on bytes start profile left)))

pub returns-in_err-ended-clause-fault : goal.returns-in_err-ended-clause-fault
returns-in_err-ended-clause-fault c = λ bytes start profile left.
    let p = err_from_is_err_and c.from_residual-in_err-ended.result c.from_residual-in_err-ended.ensures.1 in
    rw (p.1, p.2) (inr (c.in_err-ended.ensures.fault bytes start profile (c.loop-unread.invariant.goes_on bytes start profile left)))

pub returns-clause-ended : goal.returns-clause-ended
returns-clause-ended c = λ bytes start profile left. c.in_ok-ended.ensures.ok bytes start profile (c.loop-unread.invariant.goes_on bytes start profile left)
