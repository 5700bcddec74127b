use Rattle.std.proofs.Common.{ℕ, ◌+◌, List, length, sym, subst}
use Rattle.std.proofs.lemmas.Result.{err_from_is_err_and}
use Rattle.history_file.specs.declared.event.Event.TheVariants as owns
use Rattle.history_file.specs.Event.Event.{reply}
use Rattle.history_file.specs.Owning.{all_happened}
use Rattle.nfs_history.specs.Appending.{IsPlaceFor}
use Rattle.nfs_history.specs.EventFaults.{IsAtFault}
use Rattle.nfs_history.specs.Standing.{CanBeReply}
use Rattle.nfs_history.proofs.AppendSteps.{unfollowed_so}
use Rattle.nfs_history.proofs.Replied.{answered_so}
use Rattle.nfs_history.proofs.history.History.append_answer.Goals as goal

pub place_answered-requires : goal.place_answered-requires
place_answered-requires c = subst CanBeReply (sym c.as_slice.ensures) (c.requires.value, c.requires.is_reply)

pub returns-in_err-place : goal.returns-in_err-place
returns-in_err-place c =
    let p = err_from_is_err_and c.from_residual.result c.from_residual.ensures.1 in
    let before = all_happened c.args.self.now.events in
    let at = subst (λ (m : List ℕ). IsAtFault (length before + 1) before (reply c.args.lane m) c.in_err-place.field-0.0) c.as_slice.ensures c.in_err-place.ensures.fault in
    rw (p.1, p.2) (unfollowed_so c.args.self.now (owns.Reply c.args.lane c.args.message) c.in_err-place.field-0.0 c.in_err-place.ensures.all at)

pub take_answer-requires-clause-recorded : goal.take_answer-requires-clause-recorded
take_answer-requires-clause-recorded c =
    let stands = subst (λ (m : List ℕ). IsPlaceFor c.args.self.now c.args.lane m c.in_ok-place.place) c.as_slice.ensures c.in_ok-place.ensures.place in
    answered_so c.args.self.now c.args.lane c.args.message c.in_ok-place.place c.args.reply c.requires stands (c.comes_out.ensures c.if-not-comes_out.false)
