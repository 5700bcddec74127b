use Rattle.std.proofs.Common.{Some, refl, sym, ◌∙◌, arith}
use Rattle.tree_stores.proofs.Paging.{byte_same, same_parts, none_here}
use Rattle.tree_stores.proofs.file_bytes.pages.set_up.Goals as goal

pub returns-in_err-insert-clause-same : goal.returns-in_err-insert-clause-same
returns-in_err-insert-clause-same c = same_parts c.args.pages.now (record { first = c.args.pages.now.first; rest = c.insert.new.self }) refl c.in_err-insert.ensures.err

pub returns-clause-same : goal.returns-clause-same
returns-clause-same c =
    byte_same c.args.pages.now (record { first = c.args.pages.now.first; rest = c.insert.new.self }) c.args.number (Some c.new.result) refl c.in_ok-insert.ensures.updates c.new.ensures
    (none_here c.args.pages.now c.args.number (omega arith) (sym c.contains_key.ensures ∙ c.if-contains_key.false))
