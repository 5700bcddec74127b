use Rattle.decide.proofs.Lasting.{all_kept}
use Rattle.decide.proofs.marking.marks_of.Goals as goal

pub returns : goal.returns
returns c = all_kept c.args.history.now.known c.loop-index.marks.items c.loop-index.invariant.1
