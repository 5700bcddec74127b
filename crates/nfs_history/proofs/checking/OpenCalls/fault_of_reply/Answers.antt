use Rattle.std.proofs.Common.{inl, inr, refl, sym, ◌∙◌}
use Rattle.rpc_reader.specs.Views.{reply_value}
use Rattle.rpc_reader.specs.Messages.{IsReply}
use Rattle.nfs_history.proofs.EventFaultLaws.{read_value, none_read}
use Rattle.nfs_history.proofs.Lanes.{closed_is, open_is}
use Rattle.nfs_history.proofs.checking.OpenCalls.fault_of_reply.Goals as goal

pub returns-then-is_closed : goal.returns-then-is_closed
returns-then-is_closed c = λ before knows.
    inl (closed_is c.args.lane before (sym (knows.closed c.args.lane) ∙ sym c.is_closed.ensures ∙ c.if-is_closed.true), refl)

pub returns-then-is_err : goal.returns-then-is_err
returns-then-is_err c = λ before knows.
    let none = none_read (IsReply c.args.message.now) _ c.read_reply.result (sym c.is_err.ensures.value ∙ c.if-is_err.true) c.read_reply.ensures.only in
    let open_lane = open_is c.args.lane before (sym (knows.closed c.args.lane) ∙ sym c.is_closed.ensures ∙ c.if-is_closed.false) in
    inr (inl (open_lane, none, refl))

pub fault_of_no_such_call-requires-clause-message : goal.fault_of_no_such_call-requires-clause-message
fault_of_no_such_call-requires-clause-message c = read_value reply_value (IsReply c.args.message.now) c.read_reply.result (sym c.is_err.ensures.value ∙ c.if-is_err.false) c.read_reply.ensures.found
