use Rattle.witness_check.proofs.OnlyVerdict.{the_only}
use Rattle.witness_check.proofs.verdict.check_files.Goals as goal

pub returns-clause-only : goal.returns-clause-only
returns-clause-only c =
    the_only c.args.history.now c.args.certificate.now c.verdict_on.result (c.verdict_on.ensures c.args.history.now c.read_calls.ensures.found c.read_calls.ensures.fault)
