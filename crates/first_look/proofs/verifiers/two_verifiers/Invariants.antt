use Rattle.std.specs.Prelude.{IfSome}
use Rattle.first_look.specs.TwoVerifiers.{IsShownIn}
use Rattle.first_look.proofs.verifiers.two_verifiers.Given as goal

-- what is compared is shown by a call
abbrev pub invariant-loop-index : goal.invariant-loop-index
invariant-loop-index l = IfSome l.last (IsShownIn l.known)
