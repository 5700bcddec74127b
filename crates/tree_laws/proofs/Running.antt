-- every step, and so every run, keeps a tree well formed
use Rattle.std.proofs.Common.{◌≡◌, ℕ, ◌⊎◌, inl, inr, Bool, List, [], ◌∷◌, length, map, Option, Some, subst}
use Rattle.std.specs.FinMap as finite
use Rattle.nfs3_types.specs.declared.calls.NfsCall.{NfsCall}
use Rattle.nfs3_types.specs.declared.replies.Outcome.{Outcome}
use Rattle.replay_law.specs.Run.{TakenStep, state_after}
use Rattle.file_tree.specs.Change.{Change}
use Rattle.file_tree.specs.Change.Change.{Keep, Put, Remove, Move}
use Rattle.tree_nodes.specs.declared.node.Node.{Node}
use Rattle.tree_nodes.specs.Tree.{Names, Tree}
use Rattle.tree_nodes.specs.Moved.{moved}
use Rattle.tree_handles.specs.Binding.{Bindings}
use Rattle.file_tree.specs.StartTree.{start_tree}
use Rattle.file_tree.specs.Success.{changed, change_of, next_tree}
use Rattle.tree_laws.specs.LiveHandles.{path_taken}
use Rattle.tree_laws.specs.OnePath.{path_asked, is_rename}
use Rattle.tree_laws.specs.WellFormed.{IsWellFormed, StepsKeep, RunsKeep}
use Rattle.tree_nodes.proofs.Chains.{chained, mapped, same_some}
use Rattle.tree_laws.proofs.Changing.{Replaces, Grows, Fits, Over, change_fits}
use Rattle.tree_laws.proofs.Moved.{has_moved}
use Rattle.tree_laws.proofs.Keeping.{formed_replaced, formed_grown, formed_shrunk, formed_moved}
use Rattle.tree_laws.proofs.Starting.{start_formed}
use Rattle.tree_laws.proofs.Numbered.{shifted, runs_plain}

formed_put : (tree : Tree) (path : Names) (node : Node) → IsWellFormed tree → Replaces tree path node ⊎ Grows tree path node → IsWellFormed (finite.insert tree path node)
formed_put tree path node formed (inl what) = formed_replaced tree path node formed what
formed_put tree path node formed (inr what) = formed_grown tree path node formed what

formed_changed : (number : ℕ) (over : ℕ → ℕ → Type 0) (tree : Tree) (renames : Bool) (taken asked : Option Names) (c : Change) → IsWellFormed tree
    → Fits number over tree renames taken asked c → IsWellFormed (changed tree c)
formed_changed number over tree renames taken asked Keep formed fits = formed
formed_changed number over tree renames taken asked (Put path node) formed fits = formed_put tree path node formed fits.1
formed_changed number over tree renames taken asked (Remove path) formed fits = formed_shrunk tree path formed fits.2
formed_changed number over tree renames taken asked (Move p q) formed fits =
    let what = fits.2 in
    formed_moved tree (moved tree p q) p q formed what (has_moved tree p q what.stood what.outside what.bare)

pub steps_keep : StepsKeep
steps_keep binds before after number call outcome e formed =
    let change = mapped (changed before) (change_of binds before number call outcome) after e in
    subst IsWellFormed change.2 (formed_changed number (Over binds before call outcome) before (is_rename call) (path_taken binds before call) (path_asked binds before call) change.0 formed (change_fits binds before number call outcome change.0 change.1))

-- a run from any well-formed tree
pub run_keeps : (binds : Bindings) (start : Tree) (steps : List (TakenStep NfsCall Outcome)) (tree : Tree) → IsWellFormed start → state_after (next_tree binds) start steps ≡ Some tree → IsWellFormed tree
run_keeps binds start [] tree formed e = subst IsWellFormed (same_some start tree e) formed
run_keeps binds start (step ∷ steps) tree formed e =
    let next = chained (λ after. state_after (next_tree binds) after steps) (next_tree binds start step.number step.call step.outcome) tree e in
    run_keeps binds next.0 steps tree (steps_keep binds start next.0 step.number step.call step.outcome next.1 formed) next.2

-- and from that of any start
pub runs_keep : RunsKeep
runs_keep profile start binds steps tree is e =
    run_keeps binds (start_tree start) (map (shifted (length start)) steps) tree (start_formed start is) (runs_plain profile (length start) binds (start_tree start) tree steps e)
