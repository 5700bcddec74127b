-- For the prover, and for callers.
-- what a contract sees of names
use Rattle.std.specs.Prelude.{ℕ, List, [], ◌∷◌}
use Rattle.std.specs.declared.cmp.Ordering.{Ordering}
use Rattle.std.specs.Ordering.{nat_cmp}
use Rattle.std.specs.Cmp.Lexicographic.{slice_cmp}
use Rattle.std.specs.FinMap as map
use Rattle.tree_stores.specs.declared.names.few.Named.{Named}
use Rattle.tree_stores.specs.declared.names.Store.{Store}
use Rattle.tree_stores.specs.declared.names.Store.TheVariants.{Few, Short, Long}

-- names byte by byte, a front first
abbrev pub name_cmp : List ℕ → List ℕ → Ordering
name_cmp = slice_cmp nat_cmp

-- the map from names to objects
abbrev pub Objects : Type 0
Objects = map.FinMap name_cmp ℕ

-- the names of a vector with their objects
abbrev pub listed : List Named → List (List ℕ × ℕ)
listed [] = []
listed (named ∷ rest) = (named.name, named.object) ∷ listed rest

-- the names of a tree's entries, which are the bytes of its keys, with their objects
abbrev pub entered : {Key : Type 0} → (Key → List ℕ) → List (Key × ℕ) → List (List ℕ × ℕ)
entered bytes [] = []
entered bytes (entry ∷ rest) = (bytes entry.0, entry.1) ∷ entered bytes rest

-- the names with their objects, in the names' order
abbrev pub pairs_of : Store → List (List ℕ × ℕ)
pairs_of (Few few) = listed few.items
pairs_of (Short many) = entered (λ key. key) many.entries
pairs_of (Long many) = entered (λ key. key.items) many.entries
