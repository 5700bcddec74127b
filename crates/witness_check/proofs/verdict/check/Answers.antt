use Rattle.witness_check.proofs.verdict.check.Goals as goal

pub returns-clause-only : goal.returns-clause-only
returns-clause-only c = λ verdict is. c.check_calls.ensures.only verdict (rw c.in_ok-known.ensures is)
