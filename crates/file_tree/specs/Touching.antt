-- For the prover, and for callers.
-- which objects a change touches
use Rattle.std.specs.Prelude.{◌≡◌, ◌⊎◌, ℕ, Option, Some, None, option_map}
use Rattle.tree_nodes.specs.Tree.{Tree}
use Rattle.tree_nodes.specs.Place.{node_in}
use Rattle.tree_nodes.specs.Spots.{spot_of}
use Rattle.file_tree.specs.declared.object_change.ObjectChange.{ObjectChange}
use Rattle.file_tree.specs.declared.object_change.ObjectChange.TheVariants as of_objects

-- the object that a change makes, writes, takes away or moves, and the one whose name it takes
abbrev pub touched_by : Tree → ObjectChange → Option ℕ × Option ℕ
touched_by tree of_objects.Keep = (None, None)
touched_by tree (of_objects.Make directory name node) = (Some node.object, None)
touched_by tree (of_objects.Write object offset bytes) = (Some object, None)
touched_by tree (of_objects.Resize object size) = (Some object, None)
touched_by tree (of_objects.Remove object) = (Some object, None)
touched_by tree (of_objects.Rename object directory name) = (Some object, option_map (λ n. n.object) (node_in tree directory name.now))

-- an object is one of these
abbrev pub IsOneOf : Option ℕ × Option ℕ → ℕ → Type 0
IsOneOf touched object = (touched.0 ≡ Some object) ⊎ (touched.1 ≡ Some object)

-- all others lie in the first tree where they lay in the second, and are the same
abbrev pub OnlyTouched : Option ℕ × Option ℕ → Tree → Tree → Type 0
OnlyTouched touched after before = (object : ℕ) → (IsOneOf touched object → ⊥) → spot_of after object ≡ spot_of before object
