-- For the prover, and for callers.
-- The words that are printed of a fault (words of this project's own).
use Rattle.std.specs.Prelude.{ℕ, List, codes}
use Rattle.journal.specs.declared.device.DevFault.{DevFault}
use Rattle.journal.specs.declared.device.DevFault.TheVariants.{Failed, NoMemory}

abbrev pub fault_words : DevFault → List ℕ
fault_words Failed = codes "the device failed"
fault_words NoMemory = codes "out of memory"
