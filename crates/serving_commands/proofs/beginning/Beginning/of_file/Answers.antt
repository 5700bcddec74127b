use Rattle.serving_commands.proofs.Starts.{told_start, told_want}
use Rattle.serving_commands.proofs.beginning.Beginning.of_file.Goals as goal

pub returns-in-Err-clause-only : goal.returns-in-Err-clause-only
returns-in-Err-clause-only c = λ known is. told_want c.read_calls.result c.in-Err.fault c.from.result c.in-Err.is c.from.ensures (c.read_calls.ensures.only known is)

pub returns-in-Err-clause-bad_start : goal.returns-in-Err-clause-bad_start
returns-in-Err-clause-bad_start c = λ named first. told_start c.read_calls.result c.in-Err.fault named c.from.result c.in-Err.is c.from.ensures (c.read_calls.ensures.named named first)
