use Rattle.std.proofs.Common.{◌≡◌, ℕ, List, sym, ap, subst, ◌∙◌}
use Rattle.std.specs.FinMap.Entries as es
use Rattle.std.specs.List.{insert}
use Rattle.tree_stores.specs.declared.names.few.Named.{Named}
use Rattle.tree_stores.specs.Names.{name_cmp, listed}
use Rattle.tree_stores.specs.Places.{IsGap}
use Rattle.tree_stores.proofs.Orders.{holds, at_any_err}
use Rattle.tree_stores.proofs.FewLemmas.{put_read, put_gap, find_none, gap_differs}
use Rattle.tree_stores.proofs.names.few.put.Goals as goal

pub returns-in_err-reserve_exact-in-Err-clause-absent : goal.returns-in_err-reserve_exact-in-Err-clause-absent
returns-in_err-reserve_exact-in-Err-clause-absent c =
    let few = c.args.few.now.items in
    let gap = rw c.as_slice.ensures.value at c.in-Err.ensures.absent in
    at_any_err c.from_residual.result (find_none c.args.name.now few (gap_differs c.args.name.now few c.in-Err.index gap))

pub returns-in_err-name-in-Err-clause-absent : goal.returns-in_err-name-in-Err-clause-absent
returns-in_err-name-in-Err-clause-absent c =
    let few = c.args.few.now.items in
    let gap = rw c.as_slice.ensures.value at c.in-Err.ensures.absent in
    at_any_err c.from_residual-in_err-name-in-Err.result (find_none c.args.name.now few (gap_differs c.args.name.now few c.in-Err.index gap))

pub returns-in-Ok-clause-ok : goal.returns-in-Ok-clause-ok
returns-in-Ok-clause-ok c =
    let at = rw c.as_slice.ensures.value at c.in-Ok.ensures.found in
    put_read c.index_mut.result.now c.args.name.now c.args.few.now.items c.in-Ok.index c.args.object (holds _ c.requires) at c.index_mut.ensures.value

pub returns-in_ok-insert-in-Err-clause-ok : goal.returns-in_ok-insert-in-Err-clause-ok
returns-in_ok-insert-in-Err-clause-ok c =
    let few = c.args.few.now.items in
    let same = c.in_ok-name-in-Err.ensures in
    let gap = rw c.as_slice.ensures.value at c.in-Err.ensures.absent in
    let named : Named = record { name = c.in_ok-name-in-Err.name; object = c.args.object } in
    subst (λ (k : List ℕ). listed c.insert.new.self.items ≡ es.put name_cmp k c.args.object (listed few)) same
    (ap listed (c.in_ok-insert-in-Err.ensures.items ∙ ap (λ z. insert z c.in-Err.index named) c.reserve_exact.ensures.items)
    ∙ put_gap named few c.in-Err.index (subst (λ (k : List ℕ). IsGap few k c.in-Err.index) (sym same) gap))
