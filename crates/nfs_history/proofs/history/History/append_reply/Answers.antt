use Rattle.std.proofs.Common.{◌≡◌, ℕ, List, [], ◌∷◌, ◌++◌, Err, subst}
use Rattle.std.proofs.lemmas.Result.{err_from_is_err_and}
use Rattle.history_file.specs.declared.event.Event.TheVariants as owns
use Rattle.history_file.specs.Event.Event.{reply, crash}
use Rattle.history_file.specs.Owning.{all_happened}
use Rattle.nfs_history.specs.Calls.{calls_of}
use Rattle.nfs_history.specs.CallFaults.{FirstCallFault}
use Rattle.nfs_history.specs.Judging.{IsStopFor}
use Rattle.nfs_history.proofs.AppendSteps.{stopped_so, wanting_so, appended_so}
use Rattle.nfs_history.proofs.history.History.append_reply.Goals as goal

pub returns-in_err-place : goal.returns-in_err-place
returns-in_err-place c =
    let p = err_from_is_err_and c.from_residual.result c.from_residual.ensures.1 in
    let stopped = subst (λ (m : List ℕ). IsStopFor {X = Unit {0}} (FirstCallFault 1 (calls_of (all_happened c.args.self.now.events ++ reply c.args.lane m ∷ []))) (Err c.in_err-place.field-0.0)) c.as_slice.ensures c.in_err-place.ensures.fault in
    rw (p.1, p.2) (stopped_so c.args.self.now (owns.Reply c.args.lane c.args.message) c.in_err-place.field-0.0 c.requires.all c.requires.follows
    (λ (crashed : reply c.args.lane c.args.message ≡ crash). absurd (cc)) stopped)

pub returns-in_err-take_reply : goal.returns-in_err-take_reply
returns-in_err-take_reply c =
    let p = err_from_is_err_and c.from_residual-in_err-take_reply.result c.from_residual-in_err-take_reply.ensures.1 in
    rw (p.1, p.2) (wanting_so c.args.self.now c.take_reply.new.self (owns.Reply c.args.lane c.args.message) c.in_err-take_reply.ensures.kept
    (λ _ (crashed : reply c.args.lane c.args.message ≡ crash). absurd (cc)))

pub returns : goal.returns
returns c = appended_so c.args.self.now c.take_reply.new.self (owns.Reply c.args.lane c.args.message) tt c.in_ok-take_reply.ensures.taken
