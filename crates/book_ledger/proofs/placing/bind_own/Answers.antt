use Rattle.std.proofs.Common.{ℕ, List, [], ◌∷◌, ◌++◌, ap, ◌∙◌}
use Rattle.std.proofs.lemmas.Result.{on_ok_weaker}
use Rattle.book_ledger.proofs.Naming.{handle_is}
use Rattle.book_ledger.proofs.placing.bind_own.Goals as goal

pub returns-clause-ok : goal.returns-clause-ok
returns-clause-ok c =
    on_ok_weaker c.push.result
    (λ pushed. pushed
    ∙ ap (λ (handle : List ℕ). record c.args.binds.now { pairs = c.args.binds.now.pairs ++ (handle, c.args.number) ∷ [] }) (c.as_slice.ensures ∙ c.to_be_bytes.ensures ∙ handle_is c.args.number))
    c.push.ensures.ok
