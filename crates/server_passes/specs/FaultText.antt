-- For the prover, and for callers.
-- The words that are printed of a fault: its name, and the lane that it names (words of this project's own).
use Rattle.std.specs.Prelude.{ℕ, List, ◌++◌, codes, decimal}
use Rattle.server_passes.specs.declared.fault.CloseFault.{CloseFault}
use Rattle.server_passes.specs.declared.fault.CloseFault.TheVariants as faults

abbrev pub close_fault_words : CloseFault → List ℕ
close_fault_words faults.MissingPass = codes "MissingPass"
close_fault_words (faults.Torn lane) = codes "Torn " ++ decimal lane
close_fault_words faults.NoMemory = codes "out of memory"
