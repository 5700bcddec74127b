use Rattle.std.proofs.Common.{[], ◌∷◌, ◌++◌, sym, ap, ◌∙◌}
use Rattle.std.specs.Prelude.{◌&&◌}
use Rattle.tree_handles.specs.tree_nodes_specs.Tree.{is_below}
use Rattle.tree_handles.proofs.Standing.{led_to}
use Rattle.tree_handles.proofs.Paths.{placed, below_child}
use Rattle.tree_answers.proofs.Naming.{below_source}
use Rattle.tree_answers.proofs.rename_causes.leads_below_itself.Goals as goal

pub returns-then-is_directory : goal.returns-then-is_directory
returns-then-is_directory c =
    let tree = c.args.view.now.nodes.now in
    let s = placed tree c.in-Some.source.now _ c.in-Some.ensures.node c.in-Some.ensures.place in
    let d = led_to tree c.in-Some-directory_of.directory _ c.in-Some-directory_of.ensures.path (sym c.in-Some-directory_of.ensures.stands) in
    c.is_from.ensures d.0 (s.0, c.in-Some.source.now) d.1 s.2 ∙ sym (below_child d.0.0 s.0 c.args.call.now.to.name)
    ∙ sym (ap (λ b. b && is_below (d.0.0 ++ c.args.call.now.to.name ∷ []) s.0) (sym c.is_directory.ensures ∙ c.if-is_directory.true)) ∙ sym (below_source _ _ c.args.call.now.to.name _ _ s.1 d.2)
