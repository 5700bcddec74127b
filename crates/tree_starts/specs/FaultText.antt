-- For the prover, and for callers.
-- The words that are printed of a fault of a start (words of this project's own).
use Rattle.std.specs.Prelude.{ℕ, List, ◌++◌, codes, decimal}
use Rattle.tree_starts.specs.declared.fault.StartFault.{StartFault}
use Rattle.tree_starts.specs.declared.fault.StartFault.TheVariants as faults

abbrev pub start_fault_words : StartFault → List ℕ
start_fault_words (faults.BadStart k) = codes "BadStart " ++ decimal k
start_fault_words (faults.TooLarge k) = codes "TooLarge " ++ decimal k
start_fault_words faults.NoMemory = codes "out of memory"
