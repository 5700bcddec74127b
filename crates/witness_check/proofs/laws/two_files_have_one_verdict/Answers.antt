use Rattle.witness_check.proofs.OneVerdict.{one_file_verdict}
use Rattle.witness_check.proofs.laws.two_files_have_one_verdict.Goals as goal

pub returns : goal.returns
returns c = one_file_verdict
