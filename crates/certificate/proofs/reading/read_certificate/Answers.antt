use Rattle.std.proofs.Common.{◌≡◌, ◌⊎◌, inl, inr, ℕ, List, Ok, Err, Result, MatchResult, refl, ap}
use Rattle.certificate.specs.declared.plan.Certificate.{Certificate}
use Rattle.certificate.specs.declared.reading.TextFault.{TextFault}
use Rattle.certificate.specs.declared.reading.TextFault.TheVariants.{BadLine, NoMemory}
use Rattle.certificate.specs.CertificateText.{CertificateText}
use Rattle.certificate.specs.BadLine.{IsBadLine, FaultHolds}
use Rattle.certificate.proofs.OneBadLine.{IsBadLine-same}
use Rattle.certificate.proofs.OneCertificate.{certificate_same}
use Rattle.certificate.proofs.reading.read_certificate.Goals as goal

only : (text : List ℕ) (r : Result Certificate TextFault) → MatchResult r (CertificateText text) (FaultHolds text) → (c : Certificate) → CertificateText text c → (r ≡ Ok c) ⊎ (r ≡ Err NoMemory)
only text (Ok d) h c whole = inl (ap (λ x. Ok x) (certificate_same d c text h whole))
only text (Err (BadLine k)) h c whole = absurd (h.none c whole)
only text (Err NoMemory) h c whole = inr refl

named : (text : List ℕ) (r : Result Certificate TextFault) → MatchResult r (CertificateText text) (FaultHolds text) → (k : ℕ) → IsBadLine text k → (r ≡ Err (BadLine k)) ⊎ (r ≡ Err NoMemory)
named text (Ok d) h k bad = absurd (bad.none d h)
named text (Err (BadLine j)) h k bad = inl (ap (λ n. Err (BadLine n)) (IsBadLine-same text j k h bad))
named text (Err NoMemory) h k bad = inr refl

pub returns-clause-only : goal.returns-clause-only
returns-clause-only c = only c.args.text.now c.read_lines.result c.read_lines.ensures

pub returns-clause-named : goal.returns-clause-named
returns-clause-named c = named c.args.text.now c.read_lines.result c.read_lines.ensures
