use Rattle.std.proofs.Common.{◌≡◌, take}
use Rattle.tree_stores.proofs.names.few.copy_of.Given as goal

abbrev pub invariant-loop-named : goal.invariant-loop-named
invariant-loop-named l = l.copies.items ≡ take l.named-index l.few
