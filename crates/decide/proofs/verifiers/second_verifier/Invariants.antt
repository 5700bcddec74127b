use Rattle.std.specs.Prelude.{IfSome}
use Rattle.decide.specs.Verifiers.{IsShownIn}
use Rattle.decide.proofs.verifiers.second_verifier.Given as goal

-- what is compared is shown by a call
abbrev pub invariant-loop-index : goal.invariant-loop-index
invariant-loop-index l = IfSome l.last (IsShownIn l.history.known)
