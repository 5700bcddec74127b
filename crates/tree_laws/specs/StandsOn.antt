-- For the prover, and for callers.
-- what no call of a run changes, removes or moves: RFC 1813, section 3.3, by procedure
use Rattle.std.specs.Prelude.{◌≡◌, ◌≢◌, ℕ, ◌+◌, List, [], ◌∷◌, length, slice_get, Some, ⊤}
use Rattle.std.specs.FinMap as map
use Rattle.nfs3_types.specs.declared.calls.NfsCall.{NfsCall}
use Rattle.nfs3_types.specs.declared.calls.NfsCall.TheVariants as calls
use Rattle.nfs3_types.specs.declared.replies.Outcome.{Outcome}
use Rattle.replay_law.specs.Run.{TakenStep, state_after}
use Rattle.tree_starts.specs.Start.{IsStart}
use Rattle.tree_starts.specs.declared.object.StartObject.{StartObject}
use Rattle.tree_starts.specs.declared.profile.Profile.{Profile}
use Rattle.tree_nodes.specs.Tree.{Names, Tree}
use Rattle.tree_nodes.specs.Place as place
use Rattle.tree_handles.specs.Binding.{Bindings}
use Rattle.file_tree.specs.Setting.{next_in}
use Rattle.file_tree.specs.StartTree.{start_node, start_tree}
use Rattle.tree_laws.specs.OnePath.{path_of, path_asked}
use Rattle.tree_laws.specs.Renaming.{IsOutside}

-- in this tree the call isn't to change this path: a RENAME from or to no path that it lies at or below, any other call not just here
abbrev pub Spares : Bindings → Tree → Names → NfsCall → Type 0
Spares binds tree path (calls.Rename call) =
    ((source : Names) → path_of binds tree call.from ≡ Some source → IsOutside source path) × ((target : Names) → path_of binds tree call.to ≡ Some target → IsOutside target path)
Spares binds tree path call = path_asked binds tree call ≢ Some path

-- none of these calls is, each in the tree that those ahead of it leave
abbrev pub AllSpare : Profile → ℕ → Bindings → Names → Tree → List (TakenStep NfsCall Outcome) → Type 0
AllSpare profile first binds path tree [] = ⊤
AllSpare profile first binds path tree (one ∷ steps) =
    Spares binds tree path one.call
    × ((after : Tree) → next_in profile first binds tree one.number one.call one.outcome ≡ Some after → AllSpare profile first binds path after steps)

-- what stood at first is there at the end, as it was, where all calls of a run spare its path
abbrev pub WhatStoodStays : Type 0
WhatStoodStays =
    (profile : Profile) (start : List StartObject) (binds : Bindings) (steps : List (TakenStep NfsCall Outcome)) (last : Tree) (k : ℕ) (o : StartObject) (path : Names)
    → IsStart start → slice_get start k ≡ Some o → place.path_of (start_tree start) (k + 1) ≡ Some path
    → state_after (next_in profile (length start) binds) (start_tree start) steps ≡ Some last → AllSpare profile (length start) binds path (start_tree start) steps
    → map.get last path ≡ Some (start_node (k + 1) o)
