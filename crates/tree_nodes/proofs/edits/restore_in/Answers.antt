use Rattle.std.proofs.Common.{◌≡◌, sym, ap, subst, ◌∙◌}
use Rattle.std.specs.Prelude.{option_map}
use Rattle.std.proofs.lemmas.Result.{on_ok_weaker, on_err_weaker}
use Rattle.tree_nodes.specs.Walk.{Held}
use Rattle.tree_nodes.specs.Changes.{Sets}
use Rattle.tree_nodes.specs.Files.{file_node}
use Rattle.tree_nodes.specs.Table.{child, held, placed}
use Rattle.tree_nodes.proofs.Chains.{same_some}
use Rattle.tree_nodes.proofs.Replacing.{body_same, node_put_in, len_put_in}
use Rattle.tree_nodes.proofs.edits.restore_in.Goals as goal

pub returns-clause-ok : goal.returns-clause-ok
returns-clause-ok c =
    let m = c.args.pages.now.map in
    let n = c.put.new.self.map in
    let entry = c.in-Some.entry in
    on_ok_weaker c.restore_body-restored.result (λ gives h file before is holds restores.
    let same : placed entry ≡ h = same_some (placed entry) h (sym (ap (option_map placed) (sym c.in-Some.ensures.value)) ∙ is) in
    subst (λ (z : Held). Sets c.args.object (file_node z.2.object before file.verifier) (child m) (child n) (held m) (held n)) same
    (node_put_in c.args.pages.now.map c.take.new.self.map c.put.new.self.map c.args.object c.in-Some.entry c.restore_body-restored.new.body (sym c.in-Some.ensures.value) c.in-Some.ensures.updates c.put.ensures.updates (file_node entry.body.node.object before file.verifier)
    (gives file before (ap (λ (z : Held). z.2.content) same ∙ holds) restores))) c.restore_body-restored.ensures.ok

pub returns-clause-len : goal.returns-clause-len
returns-clause-len c = len_put_in c.args.pages.now.map c.take.new.self.map c.put.new.self.map c.args.object c.in-Some.entry c.restore_body-restored.new.body (sym c.in-Some.ensures.value) c.in-Some.ensures.updates c.put.ensures.updates

pub returns-clause-err : goal.returns-clause-err
returns-clause-err c = on_err_weaker c.restore_body-restored.result (body_same c.args.pages.now.map c.take.new.self.map c.put.new.self.map c.args.object c.in-Some.entry c.restore_body-restored.new.body (sym c.in-Some.ensures.value) c.in-Some.ensures.updates c.put.ensures.updates) c.restore_body-restored.ensures.err
