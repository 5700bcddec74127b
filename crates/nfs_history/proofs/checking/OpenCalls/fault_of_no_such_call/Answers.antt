use Rattle.std.proofs.Common.{inr, refl, sym, ◌∙◌}
use Rattle.nfs_history.proofs.Lanes.{open_is}
use Rattle.nfs_history.proofs.checking.OpenCalls.fault_of_no_such_call.Goals as goal

pub returns-then-not-contains_key : goal.returns-then-not-contains_key
returns-then-not-contains_key c = λ before knows.
    let known = sym (knows.unanswered c.args.lane c.transaction.result) ∙ sym c.contains_key.ensures ∙ c.if-not-contains_key.true in
    let open_lane = open_is c.args.lane before (sym (knows.closed c.args.lane) ∙ c.requires.lane) in
    inr (inr (open_lane, c.requires.message, rw c.transaction.ensures at known, refl))

pub returns : goal.returns
returns c = λ before knows.
    let known = sym (knows.unanswered c.args.lane c.transaction.result) ∙ sym c.contains_key.ensures ∙ c.if-not-contains_key.false in
    let open_lane = open_is c.args.lane before (sym (knows.closed c.args.lane) ∙ c.requires.lane) in
    (open_lane, c.requires.message, rw c.transaction.ensures at known)
