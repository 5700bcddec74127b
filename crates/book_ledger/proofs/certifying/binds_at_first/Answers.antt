use Rattle.std.proofs.Common.{◌+◌, List, [], ◌∷◌, ◌++◌, sym, ap, ◌∙◌, arith}
use Rattle.std.proofs.lemmas.List.FromFn.{map-range_with_len_more}
use Rattle.certificate.specs.declared.plan.Bind.{Bind}
use Rattle.book_laws.specs.Plan.{bind_of}
use Rattle.book_ledger.proofs.certifying.binds_at_first.Goals as goal

pub loop-index-preserved : goal.loop-index-preserved
loop-index-preserved c =
    let i = c.loop-index.index in
    c.in_ok-add_bind.ensures ∙ ap (λ (bs : List Bind). bs ++ bind_of (i + 1) ∷ []) c.loop-index.invariant ∙ sym (map-range_with_len_more bind_of 1 i (i + 1) (omega arith))
