-- Believed.
-- The words that are printed of a fault of a certificate's text (words of this project's own).
use Rattle.std.specs.Prelude.{ℕ, List, ◌++◌, codes, decimal}
use Rattle.certificate.specs.declared.reading.TextFault.{TextFault}
use Rattle.certificate.specs.declared.reading.TextFault.TheVariants.{BadLine, NoMemory}
use Rattle.certificate.specs.declared.parts.CertificateFault.{CertificateFault}
use Rattle.certificate.specs.declared.parts.CertificateFault.TheVariants as certificate_faults

abbrev pub text_fault_words : TextFault → List ℕ
text_fault_words (BadLine k) = codes "BadLine " ++ decimal k
text_fault_words NoMemory = codes "out of memory"

-- ---- for the prover, and for callers

abbrev pub certificate_fault_words : CertificateFault → List ℕ
certificate_fault_words (certificate_faults.BadBind i) = codes "BadBind " ++ decimal i
certificate_fault_words (certificate_faults.BadEra i) = codes "BadEra " ++ decimal i
