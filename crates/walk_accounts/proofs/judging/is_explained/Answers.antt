use Rattle.std.proofs.Common.{sym, ◌∙◌}
use Rattle.walk_accounts.proofs.Explained.{explained}
use Rattle.walk_accounts.proofs.judging.is_explained.Goals as goal

pub returns : goal.returns
returns c =
    λ complete. explained c.args.root.now c.args.exchanges.now c.args.accounts.now c.args.first.now c.args.found.now c.requires
    (sym c.is_root.ensures ∙ c.if-not-is_root.false)
    (sym c.are_accounted.ensures ∙ c.if-not-are_accounted.false)
    (sym c.are_named.ensures ∙ c.if-not-are_named.false)
    (c.is_complete.ensures complete)
