use Rattle.std.proofs.Common.{ℕ, List, ◌++◌, length, drop, replicate, sym, ap, subst, ◌∙◌}
use Rattle.std.specs.Prelude.{slice_set}
use Rattle.tree_stores.specs.Padding.{IsPadded}
use Rattle.tree_stores.proofs.PaddingLemmas.{written, is_padded}
use Rattle.tree_stores.proofs.names.short_name.ShortName.from_slice.Goals as goal

pub invariant_of-result : goal.invariant_of-result
invariant_of-result c =
    let name = c.args.name.now in
    let bytes = ap (λ (z : List ℕ). slice_set (z ++ drop (length name) (replicate 24 0)) 23 (length name)) c.copy_from_slice.ensures.after ∙ written 23 (length name) name c.requires in
    subst IsPadded (sym bytes) (is_padded name c.requires)
