use Rattle.std.proofs.Common.{◌≡◌, true, false, sym, ap, ◌∙◌, eq-eqb}
use Rattle.std.specs.Prelude.{not, ◌&&◌, ◌==◌}
use Rattle.std.proofs.lemmas.Bool.{eqb-true}
use Rattle.tree_handles.specs.tree_nodes_specs.Tree.{same_path}
use Rattle.tree_handles.proofs.tree_nodes_laws.Chains.{isnt}
use Rattle.tree_answers.specs.Causes.{is_filled_directory}
use Rattle.tree_handles.proofs.Paths.{placed, same_object}
use Rattle.tree_answers.proofs.Naming.{filled_target}
use Rattle.tree_answers.proofs.rename_causes.rename_onto_filled_directory.Goals as goal

pub returns-then-source-target : goal.returns-then-source-target
returns-then-source-target c =
    let tree = c.args.view.now.nodes.now in
    let s = placed tree c.in-Some.source.now _ c.in-Some.ensures.node c.in-Some.ensures.place in
    let t = placed tree c.in-Some-target_of.target.now _ c.in-Some-target_of.ensures.node c.in-Some-target_of.ensures.place in
    let filled = is_filled_directory tree (t.0, c.in-Some-target_of.target.now) in
    let apart : same_path s.0 t.0 ≡ false = same_object tree _ _ _ _ s.2 t.2 ∙ isnt (_ == _) (λ e. c.if-source-target.true (eqb-true _ _ e)) in
    c.is_filled_directory.ensures t.0 t.2 ∙ sym (ap (λ b. not b && filled) apart) ∙ sym (filled_target tree _ _ _ _ s.1 t.1)

pub returns-else-source-target : goal.returns-else-source-target
returns-else-source-target c =
    let tree = c.args.view.now.nodes.now in
    let s = placed tree c.in-Some.source.now _ c.in-Some.ensures.node c.in-Some.ensures.place in
    let t = placed tree c.in-Some-target_of.target.now _ c.in-Some-target_of.ensures.node c.in-Some-target_of.ensures.place in
    let filled = is_filled_directory tree (t.0, c.in-Some-target_of.target.now) in
    let same : (c.in-Some.source.now.object == c.in-Some-target_of.target.now.object) ≡ true = eq-eqb _ _ c.if-source-target.false in
    let one : same_path s.0 t.0 ≡ true = same_object tree _ _ _ _ s.2 t.2 ∙ same in
    ap not same ∙ sym (ap (λ b. not b && filled) one) ∙ sym (filled_target tree _ _ _ _ s.1 t.1)
