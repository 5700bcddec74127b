use Rattle.std.proofs.Common.{refl, sym, ap, ◌∙◌, subst}
use Rattle.std.specs.Prelude.{Result, Ok, Err, OnOk}
use Rattle.std.specs.FinMap as map
use Rattle.tree_nodes.specs.declared.node.Content.TheVariants as contents
use Rattle.tree_nodes.specs.Tree.{entry_of}
use Rattle.tree_nodes.specs.Files.{file_node}
use Rattle.tree_stores.specs.Files.{written, resized}
use Rattle.file_tree.specs.Success.{changed}
use Rattle.file_tree.specs.Planning.{Does}
use Rattle.file_tree.proofs.tree.FileTree.carry_out.Goals as goal

onto : {A E P Q : Type 0} (r : Result A E) → OnOk r P → (P → Q) → OnOk r Q
onto (Ok x) h f = f h
onto (Err e) h f = tt

pub write-requires-clause-file : goal.write-requires-clause-file
write-requires-clause-file c =
    let d = subst (λ p. Does c.args.self.now p c.requires.0) c.in-Write.is c.requires.1 in
    ((d.path, record { object = c.in-Write.object; content = contents.File d.file }), d.file, ap (λ t. entry_of t c.in-Write.object) c.self.view_is ∙ d.stands, refl)

pub resize-requires-clause-file : goal.resize-requires-clause-file
resize-requires-clause-file c =
    let d = subst (λ p. Does c.args.self.now p c.requires.0) c.in-Resize.is c.requires.1 in
    ((d.path, record { object = c.in-Resize.object; content = contents.File d.file }), d.file, ap (λ t. entry_of t c.in-Resize.object) c.self.view_is ∙ d.stands, refl)

pub returns-in-Write-clause-next : goal.returns-in-Write-clause-next
returns-in-Write-clause-next c = onto c.write.result c.write.ensures.ok (λ ok change does.
    let object = c.in-Write.object in
    let d = subst (λ p. Does c.args.self.now p change) c.in-Write.is does in
    let node = file_node object (written d.file.bytes c.in-Write.offset c.in-Write.bytes.now) d.file.verifier in
    ok (d.path, record { object = object; content = contents.File d.file }) d.file (ap (λ t. entry_of t object) c.self.view_is ∙ d.stands) refl
    ∙ ap (λ t. map.insert t d.path node) c.self.view_is ∙ sym (ap (changed c.args.self.now) d.is))

pub returns-in-Resize-clause-next : goal.returns-in-Resize-clause-next
returns-in-Resize-clause-next c = onto c.resize.result c.resize.ensures.ok (λ ok change does.
    let object = c.in-Resize.object in
    let d = subst (λ p. Does c.args.self.now p change) c.in-Resize.is does in
    let node = file_node object (resized d.file.bytes c.in-Resize.size) d.file.verifier in
    ok (d.path, record { object = object; content = contents.File d.file }) d.file (ap (λ t. entry_of t object) c.self.view_is ∙ d.stands) refl
    ∙ ap (λ t. map.insert t d.path node) c.self.view_is ∙ sym (ap (changed c.args.self.now) d.is))
