use Rattle.std.proofs.Common.{◌≡◌, true, sym, ◌∙◌, subst}
use Rattle.std.specs.Prelude.{is_some}
use Rattle.file_tree.specs.Planning.{Plans}
use Rattle.tree_answers.proofs.tree_handles_laws.Paths.{placed_file}
use Rattle.file_tree.proofs.Planned.{file_sized}
use Rattle.file_tree.proofs.naming.set_attributes.Goals as goal

pub returns-in-Some : goal.returns-in-Some
returns-in-Some c =
    let tree = c.args.view.now.nodes.now in
    let f = placed_file tree c.in-Some.entry.object c.in-Some.entry.file.now _ c.in-Some.ensures.file c.in-Some.ensures.place in
    let sized : is_some c.args.call.now.attributes.size ≡ true = sym c.is_some.ensures ∙ c.if-is_some.true in
    subst (Plans tree c.set_size.result) (sym (file_sized c.args.view.now.binds.now tree c.args.call.now _ f.1 sized)) (c.set_size.ensures f.0 f.2)
