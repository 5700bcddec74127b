use Rattle.std.proofs.Common.{◌≡◌, ◌<◌, ◌≤◌, ◌^◌, true, Some, None, [], ◌∷◌, ◌++◌, refl, sym, ap, ◌∙◌, subst, rules, replicate, length}
use Rattle.std.proofs.lemmas.Bool.{lt-ltb, le-leb}
use Rattle.std.specs.FinMap as map
use Rattle.nfs3_types.specs.Limits.{file_limit}
use Rattle.tree_nodes.specs.declared.node.Node.{Node}
use Rattle.tree_nodes.specs.Tree.{entry_of}
use Rattle.tree_nodes.specs.Files.{node_limit, file_node}
use Rattle.tree_nodes.specs.Place.{node_in}
use Rattle.tree_answers.specs.tree_handles_specs.Binding.{gives_object}
use Rattle.file_tree.specs.Change.Change.{Put}
use Rattle.file_tree.specs.Made.{first_size, first_verifier}
use Rattle.file_tree.proofs.Planned.{no_node, file_comes}
use Rattle.file_tree.proofs.create.create_absent.Goals as goal

pub returns-then-gives_object : goal.returns-then-gives_object
returns-then-gives_object c = λ e at.
    let binds = c.args.view.now.binds.now in
    let tree = c.args.view.now.nodes.now in
    let number = c.args.number in
    let mode = c.args.call.now.mode in
    let path = e.0 ++ c.args.call.now.place.name ∷ [] in
    let made : Node = file_node number (replicate (first_size mode) 0) (first_verifier mode) in
    let node : c.new_file-node.result ≡ made = search rules in
    let unused : entry_of tree number ≡ None = no_node (entry_of tree number) (search rules) in
    let room : map.len tree < node_limit = search rules in
    let small : first_size mode ≤ file_limit = search rules in
    let gives : gives_object binds c.args.handle.now number ≡ true = search rules in
    let name : c.as_slice-name.result.now ≡ c.args.call.now.place.name = search rules in
    let short : length c.as_slice-name.result.now < 2 ^ 32 = search rules in
    let free : node_in tree c.args.directory c.as_slice-name.result.now ≡ None = ap (node_in tree c.args.directory) name ∙ c.requires in
    let put = file_comes binds tree number mode c.args.handle.now path unused (lt-ltb (map.len tree) node_limit room) (le-leb (first_size mode) file_limit small) gives in (
      Put (e.0 ++ c.as_slice-name.result.now ∷ []) c.new_file-node.result,
      put ∙ (λ i. Some (Put (e.0 ++ sym name i ∷ []) (sym node i))),
      record { entry = e; stands = at; is = refl; free = free; unused = subst (λ n. entry_of tree n.object ≡ None) (sym node) unused; room = room; short = short },
    )
