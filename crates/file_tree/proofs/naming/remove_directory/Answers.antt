use Rattle.std.proofs.Common.{◌≡◌, true, refl, sym, ◌∙◌}
use Rattle.tree_nodes.specs.declared.node.Node.{Node}
use Rattle.tree_nodes.specs.Tree.{Names, is_bare}
use Rattle.tree_answers.proofs.tree_handles_laws.Paths.{placed}
use Rattle.file_tree.specs.Change.Change.{Remove}
use Rattle.file_tree.proofs.Planned.{named_below, directory_goes}
use Rattle.file_tree.proofs.naming.remove_directory.Goals as goal

pub returns-then-is_bare : goal.returns-then-is_bare
returns-then-is_bare c =
    let binds = c.args.view.now.binds.now in
    let tree = c.args.view.now.nodes.now in
    let place = c.args.place.now in
    let s = placed tree c.in-Some.node.now _ c.in-Some.ensures.node c.in-Some.ensures.place in
    let e : Names × Node = (s.0, c.in-Some.node.now) in
    let kind = sym c.is_directory.ensures ∙ c.if-is_directory.true in
    let bare : is_bare tree s.0 ≡ true = sym (c.is_bare.ensures e s.2) ∙ c.if-is_bare.true in
    (Remove s.0, directory_goes binds tree place e s.1 kind bare, record { entry = e; stands = s.2; is = refl; bare = bare; below = named_below binds tree place e s.1 })
