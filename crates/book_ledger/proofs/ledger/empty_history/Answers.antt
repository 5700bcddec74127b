use Rattle.std.proofs.Common.{List, subst, ◌∙◌}
use Rattle.history_file.specs.declared.event.Event as owned
use Rattle.history_file.specs.Owning.{all_happened}
use Rattle.nfs_history.specs.History.{IsHistory}
use Rattle.book_ledger.proofs.Opening.{handle_is, head_of, empty_is}
use Rattle.book_ledger.proofs.ledger.empty_history.Goals as goal

pub returns-in-Ok : goal.returns-in-Ok
returns-in-Ok c =
    empty_is c.args.profile c.args.start c.requires c.in_ok-root.root c.in-Ok.history (c.in_ok-root.ensures ∙ c.as_slice.ensures ∙ c.to_be_bytes.ensures ∙ handle_is 0)
    (subst (λ (es : List owned.Event). IsHistory (record { head = head_of c.args.profile c.args.start c.in_ok-root.root; events = all_happened es }) c.in-Ok.history) c.new.ensures.items c.in-Ok.ensures.found) c.in-Ok.ensures.bare
