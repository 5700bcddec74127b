-- For the prover, and for callers.
-- The words that are printed of a fault of a plan's text (words of this project's own).
use Rattle.std.specs.Prelude.{ℕ, List, ◌++◌, codes, decimal}
use Rattle.plan_text.specs.declared.reading.PlanFault.{PlanFault}
use Rattle.plan_text.specs.declared.reading.PlanFault.TheVariants.{BadPlan, NoMemory}

abbrev pub plan_fault_words : PlanFault → List ℕ
plan_fault_words (BadPlan k) = codes "BadPlan " ++ decimal k
plan_fault_words NoMemory = codes "out of memory"
