use Rattle.std.proofs.Common.{◌≡◌, map, take}
use Rattle.tree_answers.proofs.listing.listed_names.Given as goal

-- the names so far are copied
abbrev pub invariant-loop-entry : goal.invariant-loop-entry
invariant-loop-entry l = l.names ≡ map (λ e. e.name) (take l.entry-index l.entries)
