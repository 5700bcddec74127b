use Rattle.std.proofs.Common.{◌≡◌, map, take}
use Rattle.tree_handles.proofs.binds.Binds.new.Given as goal

-- the pairs so far are added
abbrev pub invariant-loop-handle : goal.invariant-loop-handle
invariant-loop-handle l = (l.binds.root ≡ l.root) × (l.binds.pairs ≡ map (λ p. (p.0.items, p.1)) (take l.handle-index l.pairs))
