use Rattle.std.proofs.Common.{refl, sym, ◌∙◌}
use Rattle.nfs_history.proofs.Lanes.{closed_is, open_is}
use Rattle.nfs_history.proofs.checking.OpenCalls.fault_of.Goals as goal

pub returns-then-is_closed : goal.returns-then-is_closed
returns-then-is_closed c = λ before knows.
    let lane = c.in-Close.lane in
    rw c.in-Close.is (closed_is lane before (sym (knows.closed lane) ∙ sym c.is_closed.ensures ∙ c.if-is_closed.true), refl)

pub returns-else-is_closed : goal.returns-else-is_closed
returns-else-is_closed c = λ before knows.
    let lane = c.in-Close.lane in
    rw c.in-Close.is (open_is lane before (sym (knows.closed lane) ∙ sym c.is_closed.ensures ∙ c.if-is_closed.false))
