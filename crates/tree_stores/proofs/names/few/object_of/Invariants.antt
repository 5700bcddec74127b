use Rattle.std.proofs.Common.{◌≡◌, drop}
use Rattle.std.specs.FinMap.Entries as es
use Rattle.tree_stores.specs.Names.{name_cmp, listed}
use Rattle.tree_stores.proofs.names.few.object_of.Given as goal

-- no name that was looked at is this one
abbrev pub invariant-loop-named : goal.invariant-loop-named
invariant-loop-named l = es.find name_cmp l.name (listed l.few) ≡ es.find name_cmp l.name (listed (drop l.named-index l.few))
