use Rattle.std.proofs.Common.{ℕ, ◌+◌, List, length, sym, subst}
use Rattle.std.proofs.lemmas.Result.{err_from_is_err_and}
use Rattle.history_file.specs.declared.event.Event.TheVariants as owns
use Rattle.history_file.specs.Event.Event.{call}
use Rattle.history_file.specs.Owning.{all_happened}
use Rattle.nfs_history.specs.EventFaults.{IsAtFault}
use Rattle.nfs_history.specs.Standing.{CanBeCall}
use Rattle.nfs_history.proofs.AppendSteps.{unfollowed_so}
use Rattle.nfs_history.proofs.history.History.append_asked.Goals as goal

pub check_read_call-requires : goal.check_read_call-requires
check_read_call-requires c = subst CanBeCall (sym c.as_slice.ensures) (c.requires.head, c.requires.is_call)

pub returns-in_err-check_read_call : goal.returns-in_err-check_read_call
returns-in_err-check_read_call c =
    let p = err_from_is_err_and c.from_residual.result c.from_residual.ensures.1 in
    let before = all_happened c.args.self.now.events in
    let at = subst (λ (m : List ℕ). IsAtFault (length before + 1) before (call c.args.lane m) c.in_err-check_read_call.field-0.0) c.as_slice.ensures c.in_err-check_read_call.ensures.fault in
    rw (p.1, p.2) (unfollowed_so c.args.self.now (owns.Call c.args.lane c.args.message) c.in_err-check_read_call.field-0.0 c.in_err-check_read_call.ensures.all at)
