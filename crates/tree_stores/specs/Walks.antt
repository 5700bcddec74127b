-- For the prover.
-- a walk over names
use Rattle.std.specs.Prelude.{ℕ, List}
use Rattle.tree_stores.specs.declared.names.iter.Walk.{Walk}
use Rattle.tree_stores.specs.declared.names.iter.Walk.TheVariants.{Few, Short, Long}
use Rattle.tree_stores.specs.Names.{listed, entered}

-- the names that are left, with their objects
abbrev pub left_of : Walk → List (List ℕ × ℕ)
left_of (Few few) = listed few.now
left_of (Short many) = entered (λ key. key) many
left_of (Long many) = entered (λ key. key.items) many
