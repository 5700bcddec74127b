-- For the prover, and for callers.
-- The words that are printed of a fault of cuts or verifiers: its name, and the numbers that it names (words of this project's own).
use Rattle.std.specs.Prelude.{ℕ, List, ◌∷◌, ◌++◌, codes, decimal}
use Rattle.cut_check.specs.declared.fault.CutFault.{CutFault}
use Rattle.cut_check.specs.declared.fault.CutFault.TheVariants as cuts
use Rattle.cut_check.specs.declared.fault.VerifierFault.{VerifierFault}
use Rattle.cut_check.specs.declared.fault.VerifierFault.TheVariants as verifiers

abbrev pub cut_fault_words : CutFault → List ℕ
cut_fault_words (cuts.ShortCut e needed) = codes "ShortCut " ++ (decimal e ++ (32 ∷ decimal needed))
cut_fault_words cuts.NoMemory = codes "out of memory"

abbrev pub verifier_fault_words : VerifierFault → List ℕ
verifier_fault_words (verifiers.Verifier e) = codes "Verifier " ++ decimal e
verifier_fault_words verifiers.NoMemory = codes "out of memory"
