use Rattle.std.proofs.Common.{List, length, Some, refl, ap, ◌∙◌}
use Rattle.std.specs.List.{range_with_len}
use Rattle.tree_starts.specs.declared.object.StartObject.{StartObject}
use Rattle.tree_nodes.specs.Tree.{Tree}
use Rattle.book_laws.specs.Book.{bindings_made}
use Rattle.book_ledger.proofs.Opening.{opening_whole}
use Rattle.book_ledger.proofs.ledger.Ledger.new_from.Goals as goal

pub returns : goal.returns
returns c =
    let binds = c.in_ok-binds.ensures ∙ ap (λ (s : List StartObject). bindings_made (range_with_len 1 (length s))) c.objects.ensures.value in
    opening_whole _ _ c.objects.ensures.start _ c.in_ok-empty_history.ensures c.new.ensures.items c.new-2.ensures.items c.new-3.ensures.items binds (ap (λ (t : Tree). Some t) c.in_ok-tree.ensures)
    c.new-4.ensures.items refl refl
