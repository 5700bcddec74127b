use Rattle.std.proofs.Common.{◌≡◌}
use Rattle.std.specs.List.{range_with_len}
use Rattle.journal.specs.Rebuilding.{bindings_made}
use Rattle.journal.proofs.naming.name_first.Given as goal

-- the objects so far have their handles
abbrev pub invariant-loop-index : goal.invariant-loop-index
invariant-loop-index l = l.binds ≡ bindings_made (range_with_len 1 l.index)
