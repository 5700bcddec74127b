-- For the prover, and for callers.
-- The words that are printed of a fault (words of this project's own).
use Rattle.std.specs.Prelude.{ℕ, List, ◌++◌, codes, decimal}
use Rattle.replay_law.specs.declared.run.RunFault.{RunFault}
use Rattle.replay_law.specs.declared.run.RunFault.TheVariants as run_faults
use Rattle.replay_law.specs.declared.replay.StepFault.{StepFault}
use Rattle.replay_law.specs.declared.replay.StepFault.TheVariants as step_faults

abbrev pub run_fault_words : RunFault → List ℕ
run_fault_words (run_faults.Illegal i) = codes "step " ++ (decimal i ++ codes " isn't allowed")
run_fault_words run_faults.NoMemory = codes "out of memory"

abbrev pub step_fault_words : StepFault → List ℕ
step_fault_words step_faults.NotAllowed = codes "the outcome isn't allowed here"
step_fault_words step_faults.NoMemory = codes "out of memory"
