use Rattle.std.proofs.Common.{◌≡◌, ◌++◌, length}
use Rattle.history_picture.specs.Escaping.{escaped}
use Rattle.history_picture.proofs.escaping.escape.Given as goal

-- what stands for the bytes so far, and for those that are left
abbrev pub invariant-loop-rest : goal.invariant-loop-rest
invariant-loop-rest l = l.out.items ++ escaped l.rest ≡ escaped l.bytes

-- a turn takes a byte at least
abbrev pub decreases-loop-rest : goal.decreases-loop-rest
decreases-loop-rest l = length l.rest
