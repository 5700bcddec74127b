use Rattle.journal.proofs.Records.{first_more}
use Rattle.journal.proofs.naming.name_first.Goals as goal

pub loop-index-preserved : goal.loop-index-preserved
loop-index-preserved c = first_more c.loop-index.index c.loop-index.binds c.name_object.new.binds c.loop-index.invariant c.in_ok-name_object.ensures
