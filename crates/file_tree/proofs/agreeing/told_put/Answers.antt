use Rattle.std.proofs.Common.{sym, ◌∙◌, subst}
use Rattle.tree_stores.specs.Files.{written, resized}
use Rattle.file_tree.specs.Planning.{Does}
use Rattle.file_tree.proofs.PutTold.{told_made, told_filled}
use Rattle.file_tree.proofs.agreeing.told_put.Goals as goal

pub returns-in-Make : goal.returns-in-Make
returns-in-Make c = λ change does at.
    let tree = c.args.view.now.nodes.now in
    let makes = subst (λ p. Does tree p change) c.in-Make.is does in
    c.told_after.ensures change does
    ∙ sym (told_made c.args.view.now.binds.now tree c.requires c.args.place.now change at c.in-Make.directory c.in-Make.name.now c.in-Make.node makes)

pub returns-in-Write : goal.returns-in-Write
returns-in-Write c = λ change does at.
    let tree = c.args.view.now.nodes.now in
    let fills = subst (λ p. Does tree p change) c.in-Write.is does in
    c.told_after-in-Write.ensures change does
    ∙ sym (told_filled c.args.view.now.binds.now tree c.requires c.args.place.now change at c.in-Write.object (λ o. written o c.in-Write.offset c.in-Write.bytes.now) fills)

pub returns-in-Resize : goal.returns-in-Resize
returns-in-Resize c = λ change does at.
    let tree = c.args.view.now.nodes.now in
    let fills = subst (λ p. Does tree p change) c.in-Resize.is does in
    c.told_after-in-Resize.ensures change does
    ∙ sym (told_filled c.args.view.now.binds.now tree c.requires c.args.place.now change at c.in-Resize.object (λ o. resized o c.in-Resize.size) fills)
