use Rattle.std.proofs.Common.{ℕ, ◌*◌, List, ◌++◌, take, ap, ◌∙◌, arith}
use Rattle.std.proofs.lemmas.List.{append_assoc, take_all}
use Rattle.tree_stores.specs.declared.file_bytes.page.TheConstants.{PAGE}
use Rattle.tree_stores.specs.Files.{resized}
use Rattle.tree_stores.specs.Paged.{byte_of}
use Rattle.tree_stores.proofs.Reading.{put_more, view_length}
use Rattle.tree_stores.proofs.file_bytes.file.FileBytes.put.Goals as goal

pub loop-number-preserved : goal.loop-number-preserved
loop-number-preserved c =
    let xs = c.args.self.now in
    let number = c.loop-number.number in
    let front = c.args.out.now.items in
    c.in_ok-put.ensures ∙ ap (λ (ys : List ℕ). ys ++ resized c.stored.result.now c.min-count.result) c.loop-number.invariant
    ∙ append_assoc front (take (number * PAGE) xs) (resized c.stored.result.now c.min-count.result)
    ∙ ap (λ (ys : List ℕ). front ++ ys)
    (put_more c.self.inside.pages c.self.inside.size xs c.self.invariant c.self.view_is c.stored.result.now number c.min-count.result c.stored.ensures.value c.min-count.ensures (omega (arith, c.div_ceil-number-end.ensures)))

pub returns : goal.returns
returns c =
    c.loop-number.invariant
    ∙ ap (λ (ys : List ℕ). c.args.out.now.items ++ ys)
    (take_all (c.loop-number.number * PAGE) c.args.self.now
    (omega (arith, view_length (byte_of c.self.inside.pages) c.self.inside.size c.args.self.now c.self.invariant c.self.view_is, c.div_ceil-number-end.ensures)))
