use Rattle.std.proofs.Common.{◌≡◌, ◌⊎◌, inl, inr, true, Result, Ok, Some, None, refl, sym, ◌∙◌, rules}
use Rattle.std.specs.Prelude.{IsSome}
use Rattle.alike_calls.specs.Alike.{object_touched}
use Rattle.tree_answers.specs.Asked.{first_handle}
use Rattle.tree_handles.specs.Binding.{object_of}
use Rattle.decision_steps.specs.Known.{is_failure}
use Rattle.decision_walk.specs.Opening.{open_at}
use Rattle.decision_walk.proofs.CountingLaws.{found_so, touched_apart}
use Rattle.decision_walk.proofs.machine.HistoryMachine.write_touched.Goals as goal
use Rattle.decision_walk.proofs.machine.HistoryMachine.write_touched.Goals.{else-not-is_failure-via-then-not-is_failure+else-is_none, else-not-is_failure-via-else-not-is_failure}

ok_is : {X E : Type 0} (a b : X) (r : Result X E) → r ≡ Ok a → r ≡ Ok b → a ≡ b
ok_is a b r e f = cc

pub returns-in-Some-clause-apart : goal.returns-in-Some-clause-apart
returns-in-Some-clause-apart c = λ is plan agrees.
    let state = c.args.state.now in
    let touched : object_touched state.binds state.tree c.args.call.now c.args.outcome.now ≡ Some c.in-Some.object = search rules in
    let found : c.open_at.result ≡ open_at state.writes c.in-Some.object = search rules in
    let known : (is_failure c.args.outcome.now ≡ true) ⊎ IsSome (object_of state.binds (first_handle c.args.call.now)) = elim c.else-not-is_failure.branch [
      | else-not-is_failure-via-then-not-is_failure+else-is_none w ↦ inr (search rules)
      | else-not-is_failure-via-else-not-is_failure w ↦ inl (search rules)
    ] in
    touched_apart state.binds plan agrees state.tree c.args.call.now c.args.outcome.now state.writes c.in-Some.object touched (sym found ∙ ok_is c.open_at.result None (Ok c.open_at.result) refl is) known

pub returns-in-Some-clause-found : goal.returns-in-Some-clause-found
returns-in-Some-clause-found c =
    let found : c.open_at.result ≡ open_at c.args.state.now.writes c.in-Some.object = search rules in
    found_so c.args.state.now.writes c.in-Some.object c.open_at.result found
