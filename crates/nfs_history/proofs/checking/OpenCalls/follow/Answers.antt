use Rattle.std.proofs.Common.{◌≡◌, ◌+◌, ℕ, Some, None, cond, refl, ap, rules, ◌∙◌}
use Rattle.std.specs.HashMap.{get}
use Rattle.nfs_history.specs.declared.checking.OpenCalls.{OpenCalls}
use Rattle.nfs_history.specs.Matching.{same_key}
use Rattle.nfs_history.proofs.CheckingSteps.{knows_call, knows_reply, knows_close, knows_crash}
use Rattle.nfs_history.proofs.checking.OpenCalls.follow.Goals as goal

pub returns-in_ok-insert-in-Call-2-clause-ok : goal.returns-in_ok-insert-in-Call-2-clause-ok
returns-in_ok-insert-in-Call-2-clause-ok c = λ before knows may.
    let old = c.args.self.now in
    let lane = c.in-Call.lane in
    let new : OpenCalls = record { unanswered = c.insert-in-Call.new.self; calls = c.in-Some.calls; lanes = c.insert.new.self; era = old.era } in
    let follows = rw c.in-Call.is at may in
    let kept : (q : ℕ × ℕ) → get same_key c.reserve.new.self q ≡ get same_key old.unanswered q = λ q. rw c.reserve.ensures.entries refl in
    rw c.in-Call.is (knows_call before old new lane c.in-Call.message.now refl c.in_ok-insert-in-Call.ensures.updates.0
    (λ q. c.in_ok-insert-in-Call-2.ensures.updates.0 q
    ∙ ap (λ o. cond (same_key (lane, c.transaction.result) q) (Some old.calls) o) (kept q)
    ∙ ap (λ x. cond (same_key (lane, x) q) (Some old.calls) (get same_key old.unanswered q)) c.transaction.ensures)
    (search rules)
    knows follows)

pub returns-in_ok-insert-in-Reply-clause-ok : goal.returns-in_ok-insert-in-Reply-clause-ok
returns-in_ok-insert-in-Reply-clause-ok c = λ before knows may.
    let old = c.args.self.now in
    let lane = c.in-Reply.lane in
    let new : OpenCalls = record { unanswered = c.swap_remove.new.self; calls = old.calls; lanes = c.insert-in-Reply.new.self; era = old.era } in
    let follows = rw c.in-Reply.is at may in
    rw c.in-Reply.is (knows_reply before old new lane c.in-Reply.message.now refl c.in_ok-insert-in-Reply.ensures.updates.0
    (λ q. c.swap_remove.ensures.updates.0 q ∙ ap (λ x. cond (same_key (lane, x) q) None (get same_key old.unanswered q)) c.transaction-in-Reply.ensures)
    refl knows follows)

pub returns-in_ok-insert-in-Close-clause-ok : goal.returns-in_ok-insert-in-Close-clause-ok
returns-in_ok-insert-in-Close-clause-ok c = λ before knows may.
    let old = c.args.self.now in
    let new : OpenCalls = record { unanswered = old.unanswered; calls = old.calls; lanes = c.insert-in-Close.new.self; era = old.era } in
    rw c.in-Close.is (knows_close before old new c.in-Close.lane refl refl refl c.in_ok-insert-in-Close.ensures.updates.0 knows (rw c.in-Close.is at may))

pub returns-in-Crash-clause-ok : goal.returns-in-Crash-clause-ok
returns-in-Crash-clause-ok c = λ before knows may.
    let old = c.args.self.now in
    let new : OpenCalls = record { unanswered = old.unanswered; calls = old.calls; lanes = old.lanes; era = old.era + 1 } in
    rw c.in-Crash.is (knows_crash before old new refl refl refl refl knows)
