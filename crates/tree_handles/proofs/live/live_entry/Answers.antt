use Rattle.std.proofs.Common.{sym, ap, ◌∙◌}
use Rattle.std.specs.Prelude.{option_and_then}
use Rattle.tree_nodes.specs.Tree.{entry_of}
use Rattle.tree_handles.specs.Binding.{object_of}
use Rattle.tree_handles.proofs.Standing.{found_again}
use Rattle.tree_handles.proofs.live.live_entry.Goals as goal

pub returns-clause-place : goal.returns-clause-place
returns-clause-place c =
    let tree = c.args.view.now.nodes.now in
    found_again tree c.in_ok-object.object _ c.node.ensures
    ∙ ap (option_and_then (entry_of tree)) (sym c.in_ok-object.was ∙ c.object.ensures ∙ ap (object_of c.args.view.now.binds.now) c.as_slice.ensures.value)
