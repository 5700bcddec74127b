-- For the prover, and for callers.
-- The words that are printed of a fault (words of this project's own).
use Rattle.std.specs.Prelude.{ℕ, List, ◌++◌, codes, decimal}
use Rattle.journal.specs.declared.rebuild_fault.RebuildFault.{RebuildFault}
use Rattle.journal.specs.declared.rebuild_fault.RebuildFault.TheVariants.{NoRecord, NotLegal, NoMemory}

abbrev pub fault_words : RebuildFault → List ℕ
fault_words (NoRecord number) = codes "record " ++ (decimal number ++ codes " isn't that of a change")
fault_words (NotLegal number) = codes "the change of record " ++ (decimal number ++ codes " isn't allowed there")
fault_words NoMemory = codes "out of memory"
