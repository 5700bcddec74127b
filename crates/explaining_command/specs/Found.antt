-- For the prover.
-- What the functions that judge two files say to the prover.
use Rattle.witness_check.specs.declared.verdict.Verdict.{Verdict}
use Rattle.witness_check.specs.declared.verdict.Verdict.TheVariants as plans
use Rattle.witness_check.specs.declared.verdict.FileVerdict.{FileVerdict}
use Rattle.witness_check.specs.declared.verdict.FileVerdict.TheVariants as files

-- the verdict on a plan, as one on the files that it was read from
abbrev pub of_plan : Verdict → FileVerdict
of_plan plans.Yes = files.Yes
of_plan (plans.No fault) = files.No fault
