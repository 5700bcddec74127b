use Rattle.std.proofs.Common.{inl, inr, refl, sym, ◌∙◌}
use Rattle.rpc_reader.specs.Views.{call_value}
use Rattle.rpc_reader.specs.Messages.{IsCall}
use Rattle.nfs_history.proofs.EventFaultLaws.{read_value, none_read}
use Rattle.nfs_history.proofs.Lanes.{closed_is, open_is}
use Rattle.nfs_history.proofs.checking.OpenCalls.fault_of_call.Goals as goal

pub returns-then-is_closed : goal.returns-then-is_closed
returns-then-is_closed c = λ before knows.
    inl (closed_is c.args.lane before (sym (knows.closed c.args.lane) ∙ sym c.is_closed.ensures ∙ c.if-is_closed.true), refl)

pub returns-then-is_err : goal.returns-then-is_err
returns-then-is_err c = λ before knows.
    let none = none_read (IsCall c.args.message.now) _ c.read_call.result (sym c.is_err.ensures.value ∙ c.if-is_err.true) c.read_call.ensures.only in
    let open_lane = open_is c.args.lane before (sym (knows.closed c.args.lane) ∙ sym c.is_closed.ensures ∙ c.if-is_closed.false) in
    inr (inl (open_lane, none, refl))

pub fault_of_xid_in_use-requires-clause-message : goal.fault_of_xid_in_use-requires-clause-message
fault_of_xid_in_use-requires-clause-message c = read_value call_value (IsCall c.args.message.now) c.read_call.result (sym c.is_err.ensures.value ∙ c.if-is_err.false) c.read_call.ensures.found
