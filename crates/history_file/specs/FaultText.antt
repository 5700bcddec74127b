-- For the prover, and for callers.
-- The words that are printed of a fault of a history file, and of one of writing: its name, and what it names (words of this
-- project's own).
use Rattle.std.specs.Prelude.{ℕ, List, ◌++◌, codes, decimal}
use Rattle.history_file.specs.declared.fault.FileFault.{FileFault}
use Rattle.history_file.specs.declared.fault.FileFault.TheVariants as faults
use Rattle.history_file.specs.declared.writing.WriteFault.{WriteFault}
use Rattle.history_file.specs.declared.writing.WriteFault.TheVariants as write_faults

abbrev pub file_fault_words : FileFault → List ℕ
file_fault_words faults.BadMagic = codes "BadMagic"
file_fault_words faults.TooLarge = codes "TooLarge"
file_fault_words faults.Truncated = codes "Truncated"
file_fault_words (faults.BadEvent i) = codes "BadEvent " ++ decimal i
file_fault_words (faults.BadStart k) = codes "BadStart " ++ decimal k
file_fault_words faults.BadProfile = codes "BadProfile"
file_fault_words faults.Trailing = codes "Trailing"
file_fault_words faults.NoMemory = codes "out of memory"

abbrev pub write_fault_words : WriteFault → List ℕ
write_fault_words write_faults.TooLarge = codes "TooLarge"
write_fault_words write_faults.NoMemory = codes "out of memory"
