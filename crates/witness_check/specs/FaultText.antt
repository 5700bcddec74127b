-- Believed.
-- The words that are printed of a fault of a plan: its name, and the numbers that it names (words of this project's own).
use Rattle.std.specs.Prelude.{ℕ, List, ◌∷◌, ◌++◌, codes, decimal}
use Rattle.witness_check.specs.declared.fault.Fault.{Fault}
use Rattle.witness_check.specs.declared.fault.Fault.TheVariants as faults

abbrev pub fault_words : Fault → List ℕ
fault_words faults.WrongEras = codes "WrongEras"
fault_words (faults.Unknown i) = codes "Unknown " ++ decimal i
fault_words (faults.WrongEra i) = codes "WrongEra " ++ decimal i
fault_words (faults.Twice i) = codes "Twice " ++ decimal i
fault_words (faults.NotToPlace i) = codes "NotToPlace " ++ decimal i
fault_words (faults.Missing i) = codes "Missing " ++ decimal i
fault_words (faults.BadCut i) = codes "BadCut " ++ decimal i
fault_words (faults.Early i j) = codes "Early " ++ (decimal i ++ (32 ∷ decimal j))
fault_words (faults.Illegal i) = codes "Illegal " ++ decimal i
fault_words (faults.ShortCut e needed) = codes "ShortCut " ++ (decimal e ++ (32 ∷ decimal needed))
fault_words (faults.Verifier e) = codes "Verifier " ++ decimal e
