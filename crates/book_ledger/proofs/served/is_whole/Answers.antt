use Rattle.book_ledger.proofs.Full.{whole_so}
use Rattle.book_ledger.proofs.served.is_whole.Goals as goal

pub returns-in-Some : goal.returns-in-Some
returns-in-Some c =
    whole_so c.args.binds.now c.args.tree.now c.nodes.result.now c.args.call.now c.args.success.now c.in-Some.entry.object c.in-Some.entry.file.now c.nodes.ensures c.in-Some.ensures.file c.len.result c.saturating_sub-left.result c.from.result
    c.min.result c.min-asked.result c.as_slice.result.now c.len.ensures.value c.saturating_sub-left.ensures c.from.ensures c.min.ensures c.min-asked.ensures c.as_slice.ensures.value
