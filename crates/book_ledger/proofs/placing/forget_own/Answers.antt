use Rattle.std.proofs.Common.{ℕ, List, ap, ◌∙◌}
use Rattle.tree_handles.specs.Binding.{pairs_without}
use Rattle.book_ledger.proofs.Naming.{handle_is}
use Rattle.book_ledger.proofs.placing.forget_own.Goals as goal

pub returns : goal.returns
returns c =
    c.forget.ensures
    ∙ ap (λ (handle : List ℕ). record c.args.binds.now { pairs = pairs_without handle c.args.binds.now.pairs }) (c.as_slice.ensures ∙ c.to_be_bytes.ensures ∙ handle_is c.args.number)
