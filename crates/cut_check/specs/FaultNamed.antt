-- For the prover, and for callers.
-- What the check of cuts and the check of verifiers answer: a fault, or want of memory (answers of this project's own).
use Rattle.std.specs.Prelude.{◌≡◌, Result, Ok, Err}
use Rattle.cut_check.specs.declared.fault.CutFault.{CutFault}
use Rattle.cut_check.specs.declared.fault.CutFault.TheVariants as cuts
use Rattle.cut_check.specs.declared.fault.VerifierFault.{VerifierFault}
use Rattle.cut_check.specs.declared.fault.VerifierFault.TheVariants as verifiers

-- no fault of a cut is named
abbrev pub HasNoCutFault : {X : Type 0} → Result X CutFault → Type 0
HasNoCutFault (Ok x) = Unit {0}
HasNoCutFault (Err fault) = fault ≡ cuts.NoMemory

-- no fault of a verifier is named
abbrev pub HasNoVerifierFault : {X : Type 0} → Result X VerifierFault → Type 0
HasNoVerifierFault (Ok x) = Unit {0}
HasNoVerifierFault (Err fault) = fault ≡ verifiers.NoMemory
