use Rattle.journal.proofs.Rebuilt.{only_from_nothing}
use Rattle.journal.proofs.rebuilding.rebuild.Goals as goal

pub returns-clause-only : goal.returns-clause-only
returns-clause-only c = only_from_nothing c.empty-start.result c.args.records.now c.rebuild_from.result c.empty-start.ensures c.rebuild_from.ensures.only
