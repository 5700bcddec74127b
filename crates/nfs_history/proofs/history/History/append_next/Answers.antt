use Rattle.std.proofs.Common.{sym, subst}
use Rattle.std.proofs.lemmas.Result.{err_from_is_err_and}
use Rattle.history_file.specs.declared.event.Event as owned
use Rattle.history_file.specs.Owning.{happened, all_happened}
use Rattle.nfs_history.specs.Appending.{Appends}
use Rattle.nfs_history.specs.Standing.{MayFollow}
use Rattle.nfs_history.proofs.AppendSteps.{unfollowed_so}
use Rattle.nfs_history.proofs.history.History.append_next.Goals as goal

pub returns-in_err-check_next : goal.returns-in_err-check_next
returns-in_err-check_next c =
    let p = err_from_is_err_and c.from_residual.result c.from_residual.ensures.1 in
    rw (p.1, p.2) (unfollowed_so c.args.self.now c.args.event c.in_err-check_next.field-0.0 c.in_err-check_next.ensures.all c.in_err-check_next.ensures.fault)

pub append_call-requires : goal.append_call-requires
append_call-requires c = record {
  all = c.in_ok-check_next.ensures.all;
  follows = subst (λ (e : owned.Event). MayFollow (all_happened c.args.self.now.events) (happened e)) c.in-Call.is c.in_ok-check_next.ensures.follows;
}

pub returns-in-Call : goal.returns-in-Call
returns-in-Call c = subst (λ (e : owned.Event). Appends {X = Unit {0}} c.args.self.now e c.append_call.result c.append_call.new.self) (sym c.in-Call.is) c.append_call.ensures

pub append_reply-requires : goal.append_reply-requires
append_reply-requires c = record {
  all = c.in_ok-check_next.ensures.all;
  follows = subst (λ (e : owned.Event). MayFollow (all_happened c.args.self.now.events) (happened e)) c.in-Reply.is c.in_ok-check_next.ensures.follows;
}

pub returns-in-Reply : goal.returns-in-Reply
returns-in-Reply c = subst (λ (e : owned.Event). Appends {X = Unit {0}} c.args.self.now e c.append_reply.result c.append_reply.new.self) (sym c.in-Reply.is) c.append_reply.ensures

pub append_quiet-requires : goal.append_quiet-requires
append_quiet-requires c = record {
  follows = subst (λ (e : owned.Event). MayFollow (all_happened c.args.self.now.events) (happened e)) c.in-Close.is c.in_ok-check_next.ensures.follows;
  quiet = tt;
}

pub returns-in-Close : goal.returns-in-Close
returns-in-Close c = subst (λ (e : owned.Event). Appends {X = Unit {0}} c.args.self.now e c.append_quiet.result c.append_quiet.new.self) (sym c.in-Close.is) c.append_quiet.ensures

pub append_quiet-requires-in-Crash : goal.append_quiet-requires-in-Crash
append_quiet-requires-in-Crash c = record { follows = tt; quiet = tt }

pub returns-in-Crash : goal.returns-in-Crash
returns-in-Crash c = subst (λ (e : owned.Event). Appends {X = Unit {0}} c.args.self.now e c.append_quiet-in-Crash.result c.append_quiet-in-Crash.new.self) (sym c.in-Crash.is) c.append_quiet-in-Crash.ensures
