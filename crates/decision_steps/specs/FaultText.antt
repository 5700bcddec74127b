-- For the prover, and for callers.
-- The words that are printed of why a call isn't placed (words of this project's own).
use Rattle.std.specs.Prelude.{ℕ, List, codes}
use Rattle.decision_steps.specs.declared.fault.PlaceFault.{PlaceFault}
use Rattle.decision_steps.specs.declared.fault.PlaceFault.TheVariants as faults

abbrev pub place_fault_words : PlaceFault → List ℕ
place_fault_words faults.NotLegal = codes "the call can't come out so there"
place_fault_words faults.HandleNotGiven = codes "the call names a handle that no reply gave before it"
place_fault_words faults.NoMemory = codes "out of memory"
