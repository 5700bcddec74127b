use Rattle.std.proofs.Common.{length, ap, arith}
use Rattle.std.proofs.lemmas.Bool.Decides.{nat_tests}
use Rattle.plan_text.proofs.Pushed.{ahead_of_append}
use Rattle.plan_text.proofs.reading.Draft.take_append_fault.Goals as goal
use Rattle.plan_text.proofs.reading.Draft.take_append_fault.Goals.{then-is_some-via-then-is_some, then-is_some-via-else-is_some+then-is_some-2, then-is_some-via-else-is_some+else-is_some-2+then-not-is_empty}

pub returns-then-is_some : goal.returns-then-is_some
returns-then-is_some c = λ may.
    let draft = c.args.self.now in
    let none = ahead_of_append draft.append_fault draft.barrier_fault draft.steps.items may.0 in
    let append = none.0 in
    let barrier = none.1 in
    let long = ap length none.2 in
    elim c.then-is_some.branch [
      | then-is_some-via-then-is_some w ↦ grind (arith, nat_tests)
      | then-is_some-via-else-is_some+then-is_some-2 w ↦ grind (arith, nat_tests)
      | then-is_some-via-else-is_some+else-is_some-2+then-not-is_empty w ↦ grind (arith, nat_tests)
    ]
