use borrow.Author.Count.{below_more}
use Rattle.std.proofs.Common.{◌≡◌, ℕ, List, true, false, get_or, ◌∙◌, subst}
use Rattle.std.specs.Int.{w64, to_be_bytes}
use Rattle.tree_handles.specs.Agreement.{agrees}
use Rattle.tree_handles.proofs.agreement.all_own_agree.Goals as goal

pub loop-number-preserved : goal.loop-number-preserved
loop-number-preserved c =
    let binds = c.args.binds.now in
    let other = c.args.other.now in
    below_more (λ k. get_or c.args.taken.now k false ≡ true → agrees binds other (to_be_bytes w64 k) ≡ true) c.loop-number.number c.loop-number.invariant
    (λ has. subst (λ (h : List ℕ). agrees binds other h ≡ true) (c.as_slice.ensures ∙ c.to_be_bytes-handle.ensures) (c.agrees_if_taken.ensures c.if-not-agrees_if_taken.false has))
