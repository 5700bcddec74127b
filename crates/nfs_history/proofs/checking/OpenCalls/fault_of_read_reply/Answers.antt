use Rattle.std.proofs.Common.{inl, refl, sym, ◌∙◌}
use Rattle.nfs_history.proofs.Lanes.{closed_is}
use Rattle.nfs_history.proofs.checking.OpenCalls.fault_of_read_reply.Goals as goal

pub returns-then-is_closed : goal.returns-then-is_closed
returns-then-is_closed c = λ before knows.
    inl (closed_is c.args.lane before (sym (knows.closed c.args.lane) ∙ sym c.is_closed.ensures ∙ c.if-is_closed.true), refl)
