use Rattle.verdict_laws.proofs.Standing.{stood_is_read, stood_is_kept}
use Rattle.verdict_laws.proofs.first.what_stood_at_first_is_kept.Goals as goal

pub returns-clause-read : goal.returns-clause-read
returns-clause-read c = stood_is_read

pub returns-clause-kept : goal.returns-clause-kept
returns-clause-kept c = stood_is_kept
