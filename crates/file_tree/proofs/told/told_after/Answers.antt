use Rattle.std.proofs.Common.{Some, length, sym, ap, ◌∙◌, subst}
use Rattle.tree_stores.specs.Files.{written, resized}
use Rattle.nfs3_types.specs.Numbers.{type_number}
use Rattle.nfs3_types.specs.declared.attributes.FileType.TheVariants as types
use Rattle.file_tree.specs.Planning.{Does}
use Rattle.file_tree.proofs.Planned.{resized_long, written_long}
use Rattle.file_tree.proofs.ToldAfter.{made_own, made_others, file_stood, filled_own, filled_others, taken_own, taken_others, moved_over, moved_others, written_fits}
use Rattle.file_tree.proofs.told.told_after.Goals as goal

pub returns-then-node-object : goal.returns-then-node-object
returns-then-node-object c = λ change does.
    let tree = c.args.nodes.now in
    let makes = subst (λ p. Does tree p change) c.in-Make.is does in
    ap Some c.told.ensures ∙ sym (made_own tree c.requires c.args.object change c.in-Make.directory c.in-Make.name.now c.in-Make.node makes c.if-node-object.true)

pub returns-else-node-object : goal.returns-else-node-object
returns-else-node-object c = λ change does.
    let tree = c.args.nodes.now in
    let makes = subst (λ p. Does tree p change) c.in-Make.is does in
    c.told_of-stood.ensures ∙ sym (made_others tree c.requires c.args.object change c.in-Make.directory c.in-Make.name.now c.in-Make.node makes c.if-node-object.false)

pub returns-then-file-object : goal.returns-then-file-object
returns-then-file-object c = λ change does.
    let tree = c.args.nodes.now in
    let bytes = c.in-Write.bytes.now in
    let offset = c.in-Write.offset in
    let fills = subst (λ p. Does tree p change) c.in-Write.is does in
    let old = fills.file.bytes in
    let stood = c.told_of-stood.ensures ∙ file_stood tree c.requires c.args.object change c.in-Write.file (λ o. written o offset bytes) fills c.if-file-object.true in
    let within = written_fits old offset bytes fills.fits in
    ap Some (c.told_written.ensures (length old) stood within)
    ∙ sym (ap (λ n. Some (type_number types.Regular, Some n)) (written_long old offset bytes))
    ∙ sym (filled_own tree c.requires c.args.object change c.in-Write.file (λ o. written o offset bytes) fills c.if-file-object.true)

pub returns-else-file-object : goal.returns-else-file-object
returns-else-file-object c = λ change does.
    let tree = c.args.nodes.now in
    let fills = subst (λ p. Does tree p change) c.in-Write.is does in
    c.told_of-stood.ensures ∙ sym (filled_others tree c.requires c.args.object change c.in-Write.file (λ o. written o c.in-Write.offset c.in-Write.bytes.now) fills c.if-file-object.false)

pub returns-then-file-object-2 : goal.returns-then-file-object-2
returns-then-file-object-2 c = λ change does.
    let tree = c.args.nodes.now in
    let size = c.in-Resize.size in
    let fills = subst (λ p. Does tree p change) c.in-Resize.is does in
    ap (λ n. Some (n, Some size)) c.number.ensures
    ∙ sym (ap (λ n. Some (type_number types.Regular, Some n)) (resized_long fills.file.bytes size))
    ∙ sym (filled_own tree c.requires c.args.object change c.in-Resize.file (λ o. resized o size) fills c.if-file-object-2.true)

pub returns-else-file-object-2 : goal.returns-else-file-object-2
returns-else-file-object-2 c = λ change does.
    let tree = c.args.nodes.now in
    let fills = subst (λ p. Does tree p change) c.in-Resize.is does in
    c.told_of-stood.ensures ∙ sym (filled_others tree c.requires c.args.object change c.in-Resize.file (λ o. resized o c.in-Resize.size) fills c.if-file-object-2.false)

pub returns-then-gone-object : goal.returns-then-gone-object
returns-then-gone-object c = λ change does.
    let tree = c.args.nodes.now in
    let takes = subst (λ p. Does tree p change) c.in-Remove.is does in
    sym (taken_own tree c.requires c.args.object change c.in-Remove.gone takes c.if-gone-object.true)

pub returns-else-gone-object : goal.returns-else-gone-object
returns-else-gone-object c = λ change does.
    let tree = c.args.nodes.now in
    let takes = subst (λ p. Does tree p change) c.in-Remove.is does in
    c.told_of-stood.ensures ∙ sym (taken_others tree c.requires c.args.object change c.in-Remove.gone takes c.if-gone-object.false)

pub returns-then-is_over : goal.returns-then-is_over
returns-then-is_over c = λ change does.
    let tree = c.args.nodes.now in
    let moves = subst (λ p. Does tree p change) c.in-Rename.is does in
    sym (moved_over tree c.requires c.args.object change c.in-Rename.object c.in-Rename.directory c.in-Rename.name.now moves
    (sym (c.has_name-is_over.ensures moves.target moves.leads) ∙ c.if-is_over.true))

pub returns-else-is_over : goal.returns-else-is_over
returns-else-is_over c = λ change does.
    let tree = c.args.nodes.now in
    let moves = subst (λ p. Does tree p change) c.in-Rename.is does in
    c.told_of-stood.ensures
    ∙ sym (moved_others tree c.requires c.args.object change c.in-Rename.object c.in-Rename.directory c.in-Rename.name.now moves
    (sym (c.has_name-is_over.ensures moves.target moves.leads) ∙ c.if-is_over.false))
