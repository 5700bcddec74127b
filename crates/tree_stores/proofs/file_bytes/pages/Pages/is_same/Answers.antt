use Rattle.tree_stores.proofs.Alike.{same_bytes}
use Rattle.tree_stores.proofs.file_bytes.pages.Pages.is_same.Goals as goal

pub returns-then-are_same : goal.returns-then-are_same
returns-then-are_same c = λ t.
    let first = c.are_same.ensures c.if-are_same.true in
    let both = c.shows_both.ensures t in
    same_bytes c.args.self.now c.args.other.now (rw (c.as_slice.ensures.value, c.as_slice-2.ensures.value) at first) both.0 both.1
