use Rattle.std.proofs.Common.{◌≡◌, ◌<◌, true, Some, None, [], ◌∷◌, ◌++◌, refl, sym, ap, ◌∙◌, subst, rules}
use Rattle.std.specs.Prelude.{option_and_then}
use Rattle.std.proofs.lemmas.Bool.{lt-ltb}
use Rattle.std.specs.FinMap as map
use Rattle.tree_nodes.specs.Tree.{entry_of}
use Rattle.tree_nodes.specs.Files.{node_limit}
use Rattle.tree_nodes.specs.Place.{node_in}
use Rattle.tree_answers.specs.tree_handles_specs.Binding.{gives_object}
use Rattle.tree_starts.specs.Names.{is_plain}
use Rattle.tree_answers.proofs.tree_handles_laws.Standing.{led_to}
use Rattle.file_tree.specs.Change.Change.{Put}
use Rattle.file_tree.specs.Made.{make_entry}
use Rattle.file_tree.proofs.Planned.{no_node, entry_comes}
use Rattle.file_tree.proofs.naming.make_entry.Goals as goal

pub returns-then-gives_object : goal.returns-then-gives_object
returns-then-gives_object c =
    let binds = c.args.view.now.binds.now in
    let tree = c.args.view.now.nodes.now in
    let place = c.args.place.now in
    let number = c.args.number in
    let name : c.as_slice-name.result.now ≡ place.name = c.as_slice-name.ensures.value in
    let d = led_to tree c.in-Some.directory _ c.in-Some.ensures.path (sym c.in-Some.ensures.stands) in
    let free : node_in tree c.in-Some.directory c.as_slice-name.result.now ≡ None = search rules in
    let unused : entry_of tree number ≡ None = no_node (entry_of tree number) (search rules) in
    let absent : map.get tree (d.0.0 ++ place.name ∷ []) ≡ None =
    ap (λ n. map.get tree (d.0.0 ++ n ∷ [])) (sym name) ∙ sym (ap (option_and_then (λ e. map.get tree (e.0 ++ c.as_slice-name.result.now ∷ []))) d.1) ∙ free in
    let plain : is_plain place.name ≡ true = search rules in
    let room : map.len tree < node_limit = search rules in
    let gives : gives_object binds c.args.handle.now number ≡ true = search rules in (
      Put (d.0.0 ++ c.as_slice-name.result.now ∷ []) (record { object = number; content = c.args.content }),
      subst (λ n. make_entry binds tree number place c.args.handle.now c.args.content ≡ Some (Put (d.0.0 ++ n ∷ []) (record { object = number; content = c.args.content }))) (sym name)
          (entry_comes binds tree number place c.args.handle.now c.args.content d.0.0 d.2 plain absent unused (lt-ltb (map.len tree) node_limit room) gives),
      record { entry = d.0; stands = d.1; is = refl; free = free; unused = unused; room = room; short = search rules },
    )
