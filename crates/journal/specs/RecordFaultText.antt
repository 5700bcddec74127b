-- For the prover, and for callers.
-- The words that are printed of a fault (words of this project's own).
use Rattle.std.specs.Prelude.{ℕ, List, codes}
use Rattle.journal.specs.declared.record_fault.RecordFault.{RecordFault}
use Rattle.journal.specs.declared.record_fault.RecordFault.TheVariants.{NoRecord, NoMemory}

abbrev pub fault_words : RecordFault → List ℕ
fault_words NoRecord = codes "the bytes are no record of a change"
fault_words NoMemory = codes "out of memory"
