use Rattle.judging_commands.proofs.FirstLine.{position-first}
use Rattle.judging_commands.proofs.bundle.first_line_feed.Goals as goal

pub returns-clause-first : goal.returns-clause-first
returns-clause-first c = position-first c.args.bytes.now c.memchr.result c.memchr.ensures
