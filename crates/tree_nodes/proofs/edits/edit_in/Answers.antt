use Rattle.std.proofs.Common.{◌≡◌, sym, ap, subst, ◌∙◌}
use Rattle.std.specs.Prelude.{option_map}
use Rattle.std.proofs.lemmas.Result.{IfOk-weaker, on_ok_weaker, on_err_weaker}
use Rattle.tree_nodes.specs.Walk.{Held}
use Rattle.tree_nodes.specs.Changes.{Sets}
use Rattle.tree_nodes.specs.Edits.{edited}
use Rattle.tree_nodes.specs.Files.{file_node}
use Rattle.tree_nodes.specs.Table.{child, held, placed}
use Rattle.tree_nodes.proofs.Chains.{same_some}
use Rattle.tree_nodes.proofs.Replacing.{body_same, node_put_in, len_put_in}
use Rattle.tree_nodes.proofs.edits.edit_in.Goals as goal

pub returns-clause-ok : goal.returns-clause-ok
returns-clause-ok c =
    let m = c.args.pages.now.map in
    let n = c.put.new.self.map in
    let entry = c.in-Some.entry in
    on_ok_weaker c.edit_body-edited.result (λ gives h file is holds.
    let same : placed entry ≡ h = same_some (placed entry) h (sym (ap (option_map placed) (sym c.in-Some.ensures.value)) ∙ is) in
    subst (λ (z : Held). Sets c.args.object (file_node z.2.object (edited c.args.edit file.bytes) file.verifier) (child m) (child n) (held m) (held n)) same
    (node_put_in c.args.pages.now.map c.take.new.self.map c.put.new.self.map c.args.object c.in-Some.entry c.edit_body-edited.new.body (sym c.in-Some.ensures.value) c.in-Some.ensures.updates c.put.ensures.updates (file_node entry.body.node.object (edited c.args.edit file.bytes) file.verifier)
    (gives file (ap (λ (z : Held). z.2.content) same ∙ holds)))) c.edit_body-edited.ensures.ok

pub returns-clause-undo : goal.returns-clause-undo
returns-clause-undo c =
    let entry = c.in-Some.entry in
    IfOk-weaker c.edit_body-edited.result _ _ (λ undo gives h file is holds.
    let same : placed entry ≡ h = same_some (placed entry) h (sym (ap (option_map placed) (sym c.in-Some.ensures.value)) ∙ is) in
    gives file (ap (λ (z : Held). z.2.content) same ∙ holds)) c.edit_body-edited.ensures.undo

pub returns-clause-len : goal.returns-clause-len
returns-clause-len c = len_put_in c.args.pages.now.map c.take.new.self.map c.put.new.self.map c.args.object c.in-Some.entry c.edit_body-edited.new.body (sym c.in-Some.ensures.value) c.in-Some.ensures.updates c.put.ensures.updates

pub returns-clause-err : goal.returns-clause-err
returns-clause-err c = on_err_weaker c.edit_body-edited.result (body_same c.args.pages.now.map c.take.new.self.map c.put.new.self.map c.args.object c.in-Some.entry c.edit_body-edited.new.body (sym c.in-Some.ensures.value) c.in-Some.ensures.updates c.put.ensures.updates) c.edit_body-edited.ensures.err
