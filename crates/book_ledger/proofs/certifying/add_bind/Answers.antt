use Rattle.std.proofs.Common.{◌≡◌, [], ◌∷◌, ◌++◌, ◌∙◌}
use Rattle.book_laws.specs.Book.{handle_of}
use Rattle.book_ledger.proofs.Opening.{handle_is}
use Rattle.book_ledger.proofs.certifying.add_bind.Goals as goal

pub returns : goal.returns
returns c =
    let handle : c.in_ok-handle.handle ≡ handle_of c.args.object = c.in_ok-handle.ensures ∙ c.as_slice.ensures ∙ c.to_be_bytes.ensures ∙ handle_is c.args.object in
    c.in_ok-push.ensures.items ∙ (λ i. c.args.binds.now.items ++ record { handle = handle i; object = c.args.object } ∷ [])
