use Rattle.std.proofs.Common.{sym, ◌∙◌}
use Rattle.std.proofs.lemmas.List.{take_rest}
use Rattle.tree_stores.proofs.Alike.{pages_same}
use Rattle.tree_stores.proofs.file_bytes.page.are_same.Goals as goal

pub returns-then-eq : goal.returns-then-eq
returns-then-eq c = λ t.
    let n = c.min-count.result in
    pages_same c.args.one.now c.args.other.now _ _ n (take_rest c.args.one.now n) (take_rest c.args.other.now n) (sym c.eq.ensures ∙ c.if-eq.true) (c.both_are_zeros.ensures t)
