use Rattle.std.proofs.Common.{◌≡◌, ◌++◌}
use Rattle.tree_stores.specs.Names.{entered}
use Rattle.tree_stores.specs.Places.{AreShort}
use Rattle.tree_stores.proofs.names.short.copy_of.Given as goal

-- what has been copied, none of it long, and what is left, are all names
abbrev pub invariant-loop-name : goal.invariant-loop-name
invariant-loop-name l = (entered (λ key. key) l.many.entries ++ l.name-iterator ≡ l.fn.names) × AreShort (entered (λ key. key) l.many.entries)
